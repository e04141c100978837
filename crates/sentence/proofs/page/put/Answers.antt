-- The page holds what the sentence displays as, and that is laid at the front.
use Rattle.std.proofs.Common.{◌≡◌, ◌≢◌, ap, ◌∙◌, ◌++◌, take}
use Rattle.std.proofs.lemmas.Fmt.{contents_after_writes}
use Rattle.std.proofs.lemmas.Option.{IfSome_then}
use Rattle.sentence.proofs.page.put.Goals as goal

pub returns-in-Ok-clause-text : goal.returns-in-Ok-clause-text
returns-in-Ok-clause-text g c =
    IfSome_then _ {Q = λ text. c.lay.result ≢ 0 → take c.lay.result c.lay.new.out ≡ text} c.in-Ok.ensures.writes (λ bs w some.
    c.lay.ensures.text some ∙ c.text.ensures ∙ contents_after_writes _ (λ p. p) (λ _ _ _ t. t) _ _ _ w
    ∙ ap (λ p. p ++ bs) c.new-page.ensures)
