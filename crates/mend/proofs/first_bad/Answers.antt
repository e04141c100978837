-- `find` over the domains is the search of `bad_row`.
use Rattle.std.proofs.Common.{◌≡◌, true, false, rules, get_or}
use Rattle.std.proofs.lemmas.Iterator.{first_from_Range}
use borrow.Author.Tests.{tests}
use Rattle.flow.specs.Flow.{row_ok}
use Rattle.mend.proofs.RefusalLaws.{row_found}
use Rattle.mend.proofs.first_bad.Goals as goal

pub returns : goal.returns
returns c = row_found _ _ _ (first_from_Range _ _ _ _ (λ i. row_ok c.args.domains i (get_or c.args.rows i 0) ≡ false) (λ i. row_ok c.args.domains i (get_or c.args.rows i 0) ≡ true) c.find.ensures.ran (λ x q k. search (rules, tests)) (λ x q k. search (rules, tests)))
