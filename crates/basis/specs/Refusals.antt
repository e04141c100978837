-- What a refusal tells: document 01's number or that of the change request that brought it, and the values that go with it.
use Rattle.std.specs.Prelude.{ℕ, List, [], ◌∷◌, Result, Ok, Err}
use Rattle.basis.specs.Told.{Told, answered}
use Rattle.basis.specs.declared.refusal.Refusal.{Refusal}
use Rattle.basis.specs.declared.refusal.Refusal.TheVariants.{EndsEarly, NotShortest, TooLarge, Version, Count, Row, Intransitive, Field, PriorityTaken, Extra, NotLegal, NotFitting, StepBytes, LastClock, Missing, NoRoom, EventMask, Frame, Actuator, TraceByte}

abbrev pub number : Refusal → ℕ
number EndsEarly = 1
number NotShortest = 2
number TooLarge = 3
number Version = 4
number Count = 5
number Row = 6
number (Intransitive a b c) = 7
number Field = 8
number PriorityTaken = 9
number Extra = 10
number NotLegal = 11
number NotFitting = 12
number StepBytes = 13
number LastClock = 14
number Missing = 15
number NoRoom = 16
number EventMask = 18
number Frame = 19
number Actuator = 20
number TraceByte = 21

-- 7 has the three domains, and no other number has a value.
abbrev pub values : Refusal → List ℕ
values (Intransitive a b c) = a ∷ b ∷ c ∷ []
values why = []

abbrev pub refused_by : Refusal → Told
refused_by why = record { number = number why; values = values why }

-- What a call tells whose answer has these values.
abbrev pub told_by : {A : Type 0} → (A → List ℕ) → Result A Refusal → Told
told_by vs (Ok a) = answered (vs a)
told_by vs (Err why) = refused_by why

-- What a call tells whose answer is a number, and one whose answer is all that stands beside.
abbrev pub told_number : Result ℕ Refusal → Told
told_number r = told_by (λ n. n ∷ []) r

abbrev pub told_done : {A : Type 0} → Result A Refusal → Told
told_done r = told_by (λ a. []) r

-- The number that a call is refused with, 0 where it is not.
abbrev pub number_or_0 : {A : Type 0} → Result A Refusal → ℕ
number_or_0 (Ok a) = 0
number_or_0 (Err why) = number why

-- What a call gives beside: a value that stands for all others on a refusal.
abbrev pub given_or : {A : Type 0} → A → Result A Refusal → A
given_or z (Ok a) = a
given_or z (Err why) = z
