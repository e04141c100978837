-- What the code makes of the byte form's answer is what the reader of the comma form answers, by the law `scan_reads`.
use Prim.Native.Nat.{ℕ, ◌+◌, ◌<◌, ◌≤◌}
use mathlib.Core.Path.{◌≡◌, refl, ap, sym, ◌∙◌, subst}
use mathlib.Core.Bool.{true, false, not}
use mathlib.Core.List.{List, [], ◌∷◌}
use native.Mathlib.Omega.{arith}
use lib.ListN.{length, take}
use lib.Dec.{eqb, ltb}
use borrow.Author.Tests.{eqb-true, eq-eqb, ne_eqb, lt-ltb, le-ltb}
use Rattle.std.specs.Prelude.{None, Some}
use Rattle.std.specs.List.{count_by}
use Rattle.basis.specs.Tests.{pick}
use Rattle.basis.specs.Refusals.{number, values}
use Rattle.basis.specs.declared.refusal.Refusal.{Refusal}
use Rattle.basis.specs.declared.refusal.Refusal.TheVariants.{EndsEarly, NotShortest, TooLarge, Version, Count, Row, Intransitive as Gapped, Field, PriorityTaken, Extra, NotLegal, NotFitting, StepBytes, LastClock, Missing, NoRoom, EventMask, Frame, Actuator, TraceByte}
use Rattle.basis.proofs.RefusalLaws.{number-positive, refused-apart}
use Rattle.basis.proofs.TestLaws.{by_test, and-false}
use Rattle.table.specs.declared.Table.{Table}
use Rattle.reader.specs.declared.Fault.{Fault}
use Rattle.reader.specs.Reader.{Read, no_table, reading}
use Rattle.sheet.specs.declared.Stop.TheVariants.{NoNumber, WrongEnd}
use Rattle.sheet.specs.declared.Cutting.{Cutting as TheCutting}
use Rattle.sheet.specs.Sheet.{most_numbers, sheet_reading}
use Rattle.sheet.specs.Scan.{Cutting, Verdict, Accepted, No, Intransitive, verdict_told, verdict_by, fault_read, stop_why, stop_ended, cut_of, told_cut, scanned, cut_bytes, numbers_in, ends_wrong, own, TellsOwn, passed_by, start_of, objected_by, gapped_by, joined}
use Rattle.sheet.proofs.CodeCuts.{no_seven}
use Rattle.sheet.proofs.CountSteps.{numbers-counted}
use Rattle.sheet.proofs.SheetReaderLaws.{sheet_accepted_plain}
use Rattle.sheet.proofs.ScanReads.{scan_reads}

-- A refusal is a gap, or has no values.
pub data Kind : Refusal → Type 0 where
  gap-kind : (a b c : ℕ) → Kind (Gapped a b c)
  plain-kind : (why : Refusal) → (number why ≡ 7 → ⊥) → values why ≡ [] → Kind why

pub kind : (why : Refusal) → Kind why
kind EndsEarly = plain-kind EndsEarly (λ z. omega arith) refl
kind NotShortest = plain-kind NotShortest (λ z. omega arith) refl
kind TooLarge = plain-kind TooLarge (λ z. omega arith) refl
kind Version = plain-kind Version (λ z. omega arith) refl
kind Count = plain-kind Count (λ z. omega arith) refl
kind Row = plain-kind Row (λ z. omega arith) refl
kind (Gapped a b c) = gap-kind a b c
kind Field = plain-kind Field (λ z. omega arith) refl
kind PriorityTaken = plain-kind PriorityTaken (λ z. omega arith) refl
kind Extra = plain-kind Extra (λ z. omega arith) refl
kind NotLegal = plain-kind NotLegal (λ z. omega arith) refl
kind NotFitting = plain-kind NotFitting (λ z. omega arith) refl
kind StepBytes = plain-kind StepBytes (λ z. omega arith) refl
kind LastClock = plain-kind LastClock (λ z. omega arith) refl
kind Missing = plain-kind Missing (λ z. omega arith) refl
kind NoRoom = plain-kind NoRoom (λ z. omega arith) refl
kind EventMask = plain-kind EventMask (λ z. omega arith) refl
kind Frame = plain-kind Frame (λ z. omega arith) refl
kind Actuator = plain-kind Actuator (λ z. omega arith) refl
kind TraceByte = plain-kind TraceByte (λ z. omega arith) refl

plain-by : {why : Refusal} → Kind why → (number why ≡ 7 → ⊥) → values why ≡ []
plain-by (gap-kind a b c) h = absurd (h refl)
plain-by (plain-kind why n v) h = v

pub plain-values : (why : Refusal) → (number why ≡ 7 → ⊥) → values why ≡ []
plain-values why = plain-by (kind why)

pub early : (why : Refusal) → number why ≡ 1 → why ≡ EndsEarly
early why z =
    let v : values why ≡ [] = plain-values why (λ y. omega (arith, z, y)) in
    refused-apart why EndsEarly (λ i. record { number = z i; values = v i })

not-by : {why : Refusal} → Kind why → number why ≡ 7 → ((a b c : ℕ) → why ≡ Gapped a b c → ⊥) → ⊥
not-by (gap-kind a b c) z h = h a b c refl
not-by (plain-kind why n v) z h = n z

pub not-gap : (why : Refusal) → number why ≡ 7 → ((a b c : ℕ) → why ≡ Gapped a b c → ⊥) → ⊥
not-gap why = not-by (kind why)

-- The verdict that a refusal is tells what the refusal does.
tells-by : (place : ℕ) {why : Refusal} → Kind why → verdict_told (verdict_by place why) ≡ record { number = number why; values = place ∷ values why }
unfolding pick
tells-by place (gap-kind a b c) = refl
tells-by place (plain-kind why n v) = rw (ne_eqb (number why) 7 n, v)

pub verdict-tells : (place : ℕ) (why : Refusal) → verdict_told (verdict_by place why) ≡ record { number = number why; values = place ∷ values why }
verdict-tells place why = tells-by place (kind why)

-- The wrong end of number k, by what stopped the cutting.
module _ (c : TheCutting) (k : ℕ) where
  pub not-last : (c.count ≡ k + 1 → ⊥) → ends_wrong (cut_of c) k ≡ false
  unfolding ends_wrong
  not-last h = rw (ne_eqb c.count (k + 1) h, and-false (not (eqb (stop_why c.stop) 0))) (and-false (stop_ended c.stop))

  pub no-stop : c.stop ≡ None → ends_wrong (cut_of c) k ≡ false
  unfolding ends_wrong
  no-stop e = rw e

  pub no_number : (why : Refusal) → c.stop ≡ Some (NoNumber why) → ends_wrong (cut_of c) k ≡ false
  unfolding ends_wrong
  no_number why e = rw e

  pub ends-so : (f : Fault) → c.stop ≡ Some (WrongEnd f) → c.count ≡ k + 1
      → (ends_wrong (cut_of c) k ≡ true) × TellsOwn (cut_of c) f
  unfolding ends_wrong
  ends-so f e h = rw (e, eq-eqb c.count (k + 1) h, ne_eqb (number f.why) 0 (λ z. omega (arith, z, number-positive f.why))) (refl, record { why = refl; place = refl })

-- A fault of the code with the number and the place of the text's own.
module _ (f : Fault) (c : Cutting) (h : c.refusal ≡ 7 → ⊥) (o : TellsOwn c f) where
  pub own-read : fault_read f ≡ own c
  own-read =
      let v : values f.why ≡ [] = plain-values f.why (λ z. h (sym o.why ∙ z)) in
      λ i. record { told = record { number = o.why i; values = o.place i ∷ v i }; table = no_table }

  pub passed-own : (s : List ℕ) (r : Read) → fault_read f ≡ passed_by s c r
  unfolding passed_by pick
  passed-own s r = rw (ne_eqb c.refusal 0 (λ z. omega (arith, z, o.why, number-positive f.why))) own-read

-- The text has no fault of its own.
module _ (s : List ℕ) (c : Cutting) (r : Read) (z : c.refusal ≡ 0) where
  pub passed-extra : c.next < length s → fault_read (record { why = Extra; place = c.next }) ≡ passed_by s c r
  unfolding passed_by pick
  passed-extra h = rw (eq-eqb c.refusal 0 z, lt-ltb c.next (length s) h)

  pub passed_all : length s ≤ c.next → r ≡ passed_by s c r
  unfolding passed_by pick
  passed_all h = rw (eq-eqb c.refusal 0 z, le-ltb c.next (length s) h)

-- The number that starts at a place of the bytes starts there in the text.
pub start-so : (s bs : List ℕ) (place : ℕ) {k : ℕ} (r : TheCutting) → k ≡ count_by (λ b. ltb b 128) (take place bs) → cut_of r ≡ told_cut (scanned s k) → r.next ≡ start_of s bs place
unfolding start_of
start-so s bs place r e q = ap (λ (c : Cutting). c.next) q ∙ ap (λ (n : ℕ). (scanned s n).next) (e ∙ sym (numbers-counted (take place bs)))

-- The three ways of an objection.
module _ (s : List ℕ) (c : Cutting) (bs : List ℕ) (place : ℕ) (t : Table) where
  pub missing-own : (why : Refusal) → number why ≡ 1 → own c ≡ joined s c bs (verdict_by place why) t
  unfolding objected_by pick
  missing-own why e = rw e

  pub gap-own : (why : Refusal) → number why ≡ 7 → {k : ℕ} → k ≡ count_by (λ b. ltb b 128) (take place bs) → ends_wrong c k ≡ true → own c ≡ joined s c bs (verdict_by place why) t
  unfolding gapped_by pick
  gap-own why e q w =
      let m : ends_wrong c (numbers_in (take place bs)) ≡ true = subst (λ (n : ℕ). ends_wrong c n ≡ true) (q ∙ sym (numbers-counted (take place bs))) w in
      rw (e, m)

  placed-by : {why : Refusal} → Kind why → (at : ℕ) → at ≡ start_of s bs place → (number why ≡ 1 → ⊥) → (number why ≡ 7 → ends_wrong c (numbers_in (take place bs)) ≡ false)
      → fault_read (record { why = why; place = at }) ≡ joined s c bs (verdict_by place why) t
  unfolding objected_by gapped_by pick
  placed-by (gap-kind x y z) at e n w = rw (w refl, e)
  placed-by (plain-kind why m v) at e n w = rw (ne_eqb (number why) 7 m, ne_eqb (number why) 1 n, v, e)

  pub placed-so : (why : Refusal) {k : ℕ} (r : TheCutting) → k ≡ count_by (λ b. ltb b 128) (take place bs) → cut_of r ≡ told_cut (scanned s k) → (number why ≡ 1 → ⊥)
      → (number why ≡ 7 → ends_wrong c k ≡ false) → fault_read (record { why = why; place = r.next }) ≡ joined s c bs (verdict_by place why) t
  placed-so why r q e n w =
      placed-by (kind why) r.next (start-so s bs place r q e) n
      (λ z. subst (λ (m : ℕ). ends_wrong c m ≡ false) (q ∙ sym (numbers-counted (take place bs))) (w z))

-- Where a number is missing, the text has a fault of its own.
pub own-some : (s : List ℕ) (place : ℕ) (t : Table) → ◌≡◌ {A = Read} (record { told = verdict_told (No 1 place); table = t }) (reading (cut_bytes (scanned s most_numbers)))
    → (scanned s most_numbers).refusal ≡ 0 → ⊥
unfolding objected_by pick
own-some s place t h z =
    let c : Cutting = scanned s most_numbers in
    let q : own c ≡ sheet_reading s = scan_reads s (No 1 place) t h in
    let n : (sheet_reading s).told.number ≡ 0 = sym (ap (λ (r : Read). r.told.number) q) ∙ z in
    let v : c.place ∷ [] ≡ [] = ap (λ (r : Read). r.told.values) (q ∙ sheet_accepted_plain s n) in
    let o : ◌≡◌ {A = ℕ} 0 1 = cc in
    absurd (omega arith)

-- A cutting as far as it tells comes to the same.
joined-told : (s : List ℕ) (c : Cutting) (bs : List ℕ) (v : Verdict) (t : Table) → ((why place : ℕ) → v ≡ No why place → why ≡ 1 → c.refusal ≡ 0 → ⊥) → joined s (told_cut c) bs v t ≡ joined s c bs v t
unfolding passed_by objected_by gapped_by ends_wrong pick
joined-told s c bs Accepted t h = by_test (eqb c.refusal 0) (λ e. rw e) (λ e. rw e)
joined-told s c bs (No why place) t h =
    by_test (eqb why 1)
    (λ e. rw (e, ne_eqb c.refusal 0 (h why place refl (eqb-true why 1 e))))
    (λ e. rw e)
joined-told s c bs (Intransitive place x y z) t h = by_test (eqb c.refusal 0) (λ e. rw (e, and-false c.ended)) (λ e. rw e)

module _ (s : List ℕ) (c : Cutting) (bs : List ℕ) (p : (c ≡ told_cut (scanned s most_numbers)) × (bs ≡ cut_bytes c)) where
  whole : bs ≡ cut_bytes (scanned s most_numbers)
  whole = p.1 ∙ ap cut_bytes p.0

  pub own-plain : c.refusal ≡ 7 → ⊥
  own-plain z = no_seven s most_numbers (sym (ap (λ (x : Cutting). x.refusal) p.0) ∙ z)

  pub own-met : (f : Fault) → fault_read f ≡ reading bs → number f.why ≡ 1 → c.refusal ≡ 0 → ⊥
  own-met f e n z =
      let v : values f.why ≡ [] = plain-values f.why (λ y. omega (arith, n, y)) in
      let q : ◌≡◌ {A = Read} (record { told = verdict_told (No 1 f.place); table = no_table }) (fault_read f)
      = λ i. record { told = record { number = sym n i; values = f.place ∷ sym v i }; table = no_table } in
      own-some s f.place no_table (q ∙ e ∙ ap reading whole) (sym (ap (λ (x : Cutting). x.refusal) p.0) ∙ z)

  pub judged_so : (v : Verdict) (t : Table) → ◌≡◌ {A = Read} (record { told = verdict_told v; table = t }) (reading bs) → (x : Read) → x ≡ joined s c bs v t → x ≡ sheet_reading s
  judged_so v t e x g =
      let d : Cutting = scanned s most_numbers in
      let h : ◌≡◌ {A = Read} (record { told = verdict_told v; table = t }) (reading (cut_bytes d)) = e ∙ ap reading whole in
      let same : joined s c bs v t ≡ joined s (told_cut d) (cut_bytes d) v t = ap (λ (y : Cutting). joined s y bs v t) p.0 ∙ ap (λ (b : List ℕ). joined s (told_cut d) b v t) whole in
      g ∙ same
      ∙ joined-told s d (cut_bytes d) v t
      (λ why place q n z. own-some s place t (subst (λ (w : Verdict). ◌≡◌ {A = Read} (record { told = verdict_told w; table = t }) (reading (cut_bytes d))) (q ∙ ap (λ (m : ℕ). No m place) n) h) z)
      ∙ scan_reads s v t h

  pub refused_so : (f : Fault) → fault_read f ≡ reading bs → (x : Read) → x ≡ joined s c bs (verdict_by f.place f.why) no_table → x ≡ sheet_reading s
  refused_so f e x g =
      let q : ◌≡◌ {A = Read} (record { told = verdict_told (verdict_by f.place f.why); table = no_table }) (fault_read f) = λ i. record { told = verdict-tells f.place f.why i; table = no_table } in
      judged_so (verdict_by f.place f.why) no_table (q ∙ e) x g
