-- No second answer fits `shown` or `shown_state`: from what is told of an answer, the answer can be read back.
use Rattle.std.proofs.Common.{ℕ, ◌≡◌, List, Option, Some, None, Result, option_to_list, refl, sym, ◌∙◌, replicate}
use Rattle.basis.specs.declared.refusal.Refusal.{Refusal}
use Rattle.basis.proofs.RefusalLaws.{told-apart, done-apart}
use Rattle.table.specs.declared.Table.{Table}
use Rattle.state.specs.State.{no_progress}
use Rattle.state.specs.declared.Progress.{Progress}
use Rattle.state.specs.declared.State.{State}
use Rattle.walk.specs.declared.Answer.{Answer}
use Rattle.sight.specs.Shown.{showing, told as told-view, given, showing_state, threads_shown, told_state}

-- A thread and a gap, read back.
list-apart : (v w : Option ℕ) → option_to_list v ≡ option_to_list w → v ≡ w
list-apart None None e = refl
list-apart None (Some j) e = cc
list-apart (Some i) None e = cc
list-apart (Some i) (Some j) e = cc

pub view_injective : (v w : Result (Option ℕ) Refusal) → told-view v ≡ told-view w → v ≡ w
view_injective v w e = told-apart option_to_list v w list-apart e

pub shown_unique : (t : Table) (d : ℕ) (a : Answer) (r q : Result (Option ℕ) Refusal)
    → told-view r ≡ showing t d a → told-view q ≡ showing t d a → r ≡ q
shown_unique t d a r q e f = view_injective r q (e ∙ sym f)

pub showing_injective : (a b : Result (List Progress) Refusal) → told_state a ≡ told_state b → given a ≡ given b → a ≡ b
showing_injective a b e f = done-apart (replicate 32 no_progress) a b e f

pub shown_state_unique : (t : Table) (s : State) (d : ℕ) (r q : Result (List Progress) Refusal)
    → (told_state r ≡ showing_state t s d) × (given r ≡ threads_shown t s d)
    → (told_state q ≡ showing_state t s d) × (given q ≡ threads_shown t s d) → r ≡ q
shown_state_unique t s d r q e f = showing_injective r q (e.0 ∙ sym f.0) (e.1 ∙ sym f.1)
