-- No second answer fits `admit`, `bound_of`, `worst_count`, `prohibition` or `idle_most`: what a call tells and gives beside is its answer's alone.
use Rattle.std.proofs.Common.{ℕ, ◌≡◌, List, [], ◌∷◌, Option, Some, None, Result, Ok, Err, refl, sym, ◌∙◌, ap, arith, option_to_list}
use Rattle.basis.specs.Told.{Told}
use Rattle.basis.specs.Refusals.{told_by, told_number}
use Rattle.basis.specs.declared.refusal.Refusal.{Refusal}
use Rattle.basis.proofs.BackLaws.{undone}
use Rattle.basis.proofs.RefusalLaws.{number-positive, refused-apart, number-apart}
use Rattle.table.specs.declared.Table.{Table}
use Rattle.admission.specs.declared.Admission.{Admission}
use Rattle.admission.specs.declared.Search.{Search}
use Rattle.admission.specs.Bounded.{told, count_in, bounding}
use Rattle.admission.specs.Tried.{count_given}
use Rattle.admission.specs.Admit.{told as told-admitting, bounds_in, counts_in, admitting, bounds_given, counts_given}
use Rattle.admission.specs.Worst.{worst_given}
use Rattle.admission.specs.Prohibition.{prohibiting}
use Rattle.admission.specs.IdleMost.{idling}

-- Where an answer is told apart by its values and what is given beside, a result is.
beside_apart : {A B : Type 0} (vs : A → List ℕ) (f : Result A Refusal → B) (r q : Result A Refusal)
    → ((a b : A) → vs a ≡ vs b → f (Ok a) ≡ f (Ok b) → a ≡ b) → told_by vs r ≡ told_by vs q → f r ≡ f q → r ≡ q
beside_apart vs f (Ok a) (Ok b) h e g = ap Ok (h a b (ap (λ (t : Told). t.values) e) g)
beside_apart vs f (Ok a) (Err why) h e g = let n = ap (λ (t : Told). t.number) e in absurd (omega (arith, number-positive why))
beside_apart vs f (Err why) (Ok b) h e g = let n = ap (λ (t : Told). t.number) e in absurd (omega (arith, number-positive why))
beside_apart vs f (Err why) (Err other) h e g = ap Err (refused-apart why other e)

head : List ℕ → Option ℕ
head [] = None
head (x ∷ xs) = Some x

head-back : (o : Option ℕ) → head (option_to_list o) ≡ o
unfolding head
head-back None = refl
head-back (Some x) = refl

-- A thread that is named, or a bound, is told.
named_apart : (o p : Option ℕ) → option_to_list o ≡ option_to_list p → o ≡ p
named_apart = undone option_to_list head head-back

pub bound_of_unique : (t : Table) (i : ℕ) (r q : Result Search Refusal) → (told r ≡ bounding t i) × (count_in r ≡ count_given t i)
    → (told q ≡ bounding t i) × (count_in q ≡ count_given t i) → r ≡ q
bound_of_unique t i r q e f = beside_apart (λ (s : Search). option_to_list s.bound) count_in r q
    (λ a b g h. let o : a.bound ≡ b.bound = named_apart _ _ g in λ k. record { bound = o k; tried = h k }) (e.0 ∙ sym f.0) (e.1 ∙ sym f.1)

pub admit_unique : (t : Table) (r q : Result Admission Refusal)
    → (told-admitting r ≡ admitting t) × (bounds_in r ≡ bounds_given t) × (counts_in r ≡ counts_given t)
    → (told-admitting q ≡ admitting t) × (bounds_in q ≡ bounds_given t) × (counts_in q ≡ counts_given t) → r ≡ q
admit_unique t r q e f = beside_apart {B = List ℕ × List ℕ} (λ (a : Admission). option_to_list a.without) (λ a. (bounds_in a, counts_in a)) r q
    (λ a b g h. let o : a.without ≡ b.without = named_apart _ _ g in λ k. record { without = o k; bounds = (h k).0; tried = (h k).1 })
    (e.0 ∙ sym f.0) (λ k. ((e.1 ∙ sym f.1) k, (e.2 ∙ sym f.2) k))

pub worst_count_unique : (t : Table) (r q : Result ℕ Refusal) → told_number r ≡ worst_given t → told_number q ≡ worst_given t → r ≡ q
worst_count_unique t r q e f = number-apart r q (e ∙ sym f)

pub prohibition_unique : (t : Table) (l : ℕ) (r q : Result ℕ Refusal) → told_number r ≡ prohibiting t l → told_number q ≡ prohibiting t l → r ≡ q
prohibition_unique t l r q e f = number-apart r q (e ∙ sym f)

pub idle_most_unique : (t : Table) (h length : ℕ) (r q : Result ℕ Refusal) → told_number r ≡ idling t h length → told_number q ≡ idling t h length → r ≡ q
idle_most_unique t h length r q e f = number-apart r q (e ∙ sym f)
