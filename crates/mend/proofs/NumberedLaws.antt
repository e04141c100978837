-- The whole call: which number is given when, what a refusal leaves and an answer holds, and that no second result fits.
use Prim.Native.Nat.{ℕ, ◌-◌, ◌/◌, ◌%◌, ◌≤◌, ◌<◌}
use mathlib.Core.Path.{◌≡◌, refl, sym, ◌∙◌, ap, subst}
use mathlib.Core.List.{List, [], ◌∷◌, ◌++◌}
use mathlib.Core.Bool.{true, false}
use mathlib.Core.Logic.{◌↔◌, ◌≢◌}
use native.Mathlib.Decide.{dec_lt}
use native.Mathlib.Omega.{arith}
use lib.Dec.{eqb}
use lib.ListN.{length, get_or, take, drop, replicate, length-append, length-drop, take-append-drop}
use lib.Seq.{take_at, drop_at, length-take-le, get_or-take}
use Rattle.basis.specs.Tests.{pick}
use Rattle.basis.specs.Search.{Sought, nothing, found}
use Rattle.basis.specs.Told.{Told, answered, refused}
use Rattle.basis.proofs.ListLaws.{unused_by}
use Rattle.basis.proofs.SearchLaws.{first-nothing, first_found, first-all, first_hit, FoundAt}
use Rattle.basis.proofs.TestLaws.{by_test, refuted}
use Rattle.flow.specs.Flow.{flows, row_ok}
use Rattle.flow.specs.Gap.{WithoutGap}
use Rattle.mend.specs.Rows.{mended, added}
use Rattle.mend.specs.Mend.{Outcome, full, count_ok, bad_at, bad_row, mending, outcome}
use Rattle.mend.specs.Plain.{Holds, Passing, Policy, Mends, FirstFailing, InRange, missing, Tells, no_domains, many_domains, row_fails, no_room, mends}
use Rattle.mend.specs.declared.Mended.{Mended}
use Rattle.mend.specs.declared.Unmendable.{Unmendable}
use Rattle.mend.specs.declared.Unmendable.TheVariants.{BadCount, BadRow, NoRoom}
use Rattle.std.specs.Prelude.{Result, Ok, Err}
use Rattle.mend.proofs.RefusalLaws.{bad-none, bad_hit}
use Rattle.mend.proofs.MendLaws.{mended_sixteen, mended_smallest, mended_policy, mended-whole}
use Rattle.mend.proofs.CountLaws.{added-count}
use Rattle.mend.proofs.ListedLaws.{added_lists, added-most, none-added}
use Rattle.mend.proofs.OutcomeLaws.{count_in, count_out, count-zero, count_over, full_at, full_long, found-not, policy_of, mended_wider, told-count, told_row, told-short, told-done}

-- No row fails where each passes.
policy_none : (d : ℕ) (rows : List ℕ) → Policy d rows → bad_row d rows ≡ nothing
unfolding bad_row
policy_none d rows p = first-all (bad_at d rows) d (λ i h. bad-none d rows i (p.passing.at i h))

passing_none : (given : List ℕ) → Passing (length given) given → bad_row (length given) (full given) ≡ nothing
unfolding bad_row
passing_none given p = first-all (bad_at (length given) (full given)) (length given)
    (λ i l. bad-none (length given) (full given) i (rw (full_at given i) (p.at i l)))

policy_passing : (given : List ℕ) → Policy (length given) (full given) → Passing (length given) given
policy_passing given p = record { at = λ i h. rw (full_at given i) at (p.passing.at i h) }

pub policy_full : (given : List ℕ) → length given ≤ 16 → Passing (length given) given → Policy (length given) (full given)
policy_full given h p = policy_of given h (passing_none given p)

-- What is found is the first row that does not pass, and the other way round.
passed_row : (d : ℕ) (rows : List ℕ) (i : ℕ) → bad_at d rows i ≡ nothing → row_ok d i (get_or rows i 0) ≡ true
passed_row d rows i e = by_test (row_ok d i (get_or rows i 0)) (λ t. t) (λ t. absurd (found-not (sym (bad_hit d rows i t) ∙ e)))

failed_row : (d : ℕ) (rows : List ℕ) (k i : ℕ) → bad_at d rows k ≡ found i → (k ≡ i) × (row_ok d k (get_or rows k 0) ≡ false)
failed_row d rows k i e = by_test (row_ok d k (get_or rows k 0))
    (λ t. absurd (found-not (sym e ∙ bad-none d rows k t)))
    (λ t. let q : found k ≡ found i = sym (bad_hit d rows k t) ∙ e in ((cc), t))

failing_of : (given : List ℕ) (i : ℕ) → bad_row (length given) (full given) ≡ found i → FirstFailing given i
unfolding bad_row
failing_of given i e =
    let f : FoundAt (bad_at (length given) (full given)) (length given) i = first_found _ (length given) i e in
    let w = failed_row (length given) (full given) f.number i f.answers in
    let k : f.number ≡ i = w.0 in
    record {
      below = rw k at f.below;
      fails = rw (k, full_at given i) at w.1;
      earlier = λ j h. rw (full_at given j) at (passed_row (length given) (full given) j (first-nothing _ f.number j f.earlier (omega arith)));
    }

of_failing : (given : List ℕ) (i : ℕ) → FirstFailing given i → bad_row (length given) (full given) ≡ found i
unfolding bad_row
of_failing given i f = first_hit (bad_at (length given) (full given)) i (length given) i
    (first-all _ i (λ j h. bad-none (length given) (full given) j (rw (full_at given j) (f.earlier j h))))
    (bad_hit (length given) (full given) i (rw (full_at given i) f.fails)) f.below

-- What the call tells, exactly.
tells-here : (given pairs : List ℕ) → Tells given pairs (mending given pairs).told
tells-here given pairs = by_test (count_ok (length given)) (λ c. go (bad_row (length given) (full given)) c refl) (λ c. rw (← told-count given pairs c) (out (dec_lt 16 (length given)) c))
  where
    out : Dec (16 < length given) → count_ok (length given) ≡ false → Tells given pairs (refused 5)
    out (yes h) c = many_domains h
    out (no h) c = no_domains (none (dec_lt 0 (length given)))
      where
        none : Dec (0 < length given) → length given ≡ 0
        none (yes l) = refuted (count_in (length given) l (omega arith)) c
        none (no l) = omega arith

    go : (s : Sought ℕ) → count_ok (length given) ≡ true → bad_row (length given) (full given) ≡ s → Tells given pairs (mending given pairs).told
    go (found i) c e = rw (← told_row given pairs i c e) (row_fails i (record { low = (count_out _ c).0; high = (count_out _ c).1 }) (failing_of given i e))
    go nothing c e = room (dec_lt (length pairs) (missing given))
      where
        r : InRange given
        r = record { low = (count_out _ c).0; high = (count_out _ c).1 }

        p : Passing (length given) given
        p = policy_passing given (policy_of given r.high e)

        room : Dec (length pairs < missing given) → Tells given pairs (mending given pairs).told
        room (yes h) = rw (← told-short given pairs c e h) (no_room r p h)
        room (no h) = rw (told-done given pairs c e (omega arith)) (mends r p (omega arith))

tells_only : (given pairs : List ℕ) (t : Told) → Tells given pairs t → (mending given pairs).told ≡ t
tells_only given pairs t (no_domains h) = rw (← told-count given pairs (count-zero _ h))
tells_only given pairs t (many_domains h) = rw (← told-count given pairs (count_over _ h))
tells_only given pairs t (row_fails i r f) = rw (← told_row given pairs i (count_in _ r.low r.high) (of_failing given i f))
tells_only given pairs t (no_room r p h) = rw (← told-short given pairs (count_in _ r.low r.high) (passing_none given p) h)
tells_only given pairs t (mends r p h) = rw (told-done given pairs (count_in _ r.low r.high) (passing_none given p) h)

pub mend_exactly : (given pairs : List ℕ) (t : Told) → ((mending given pairs).told ≡ t) ↔ Tells given pairs t
mend_exactly given pairs t = (λ e. subst (Tells given pairs) e (tells-here given pairs), tells_only given pairs t)

-- A refusal gives rows of 0 and leaves the list as it was.
pub mend_refused : (given pairs : List ℕ) → (mending given pairs).told.number ≢ 0 → ((mending given pairs).rows ≡ replicate 16 0) × ((mending given pairs).pairs ≡ pairs)
mend_refused given pairs h = go (mending given pairs).told refl (tells-here given pairs)
  where
    go : (t : Told) → (mending given pairs).told ≡ t → Tells given pairs t → ((mending given pairs).rows ≡ replicate 16 0) × ((mending given pairs).pairs ≡ pairs)
    go t e (no_domains x) = rw (← told-count given pairs (count-zero _ x)) (refl, refl)
    go t e (many_domains x) = rw (← told-count given pairs (count_over _ x)) (refl, refl)
    go t e (row_fails i r f) = rw (← told_row given pairs i (count_in _ r.low r.high) (of_failing given i f)) (refl, refl)
    go t e (no_room r p x) = rw (← told-short given pairs (count_in _ r.low r.high) (passing_none given p) x) (refl, refl)
    go t e (mends r p x) = absurd (h (ap (λ (t : Told). t.number) e))

-- As many pairs are listed as ones are counted.
pub many : (given : List ℕ) → length given ≤ 16 → length (added (full given) (mended (length given) (full given)) 256) ≡ missing given
many given h = added-count (full given) _ (mended_wider (length given) (full given) h)

-- What an answer holds.
module _ (given pairs : List ℕ) (r : InRange given) (p : Passing (length given) given) (h : missing given ≤ length pairs) where
  abbrev rows : List ℕ
  rows = full given

  abbrev ms : List ℕ
  ms = mended (length given) (full given)

  policy : Policy (length given) rows
  policy = policy_full given r.high p

  answered_by : mending given pairs ≡ record { told = answered (missing given ∷ []); rows = ms; pairs = added rows ms 256 ++ drop (missing given) pairs }
  answered_by = told-done given pairs (count_in _ r.low r.high) (passing_none given p) h

  pub mend_answers : Mends given pairs (mending given pairs)
  mend_answers = rw answered_by (record {
    smallest = mended_smallest (length given) rows policy;
    policy = mended_policy (length given) rows policy;
    sixteen = mended_sixteen (length given) rows r.high;
    n = missing given;
    told = refl;
    counted = refl;
    enough = h;
    begins = rw (take_at (added rows ms 256) (drop (missing given) pairs) (missing given) (many given r.high)) (added_lists rows ms (mended_sixteen (length given) rows r.high));
    many = rw (take_at (added rows ms 256) (drop (missing given) pairs) (missing given) (many given r.high)) (many given r.high);
    rest = drop_at (added rows ms 256) (drop (missing given) pairs) (missing given) (many given r.high);
    long = length-append (added rows ms 256) (drop (missing given) pairs) ∙ rw (length-drop (missing given) pairs, many given r.high) (omega arith);
  })

-- So where 0 is told, the rows are mended.
pub mend_zero : (given pairs : List ℕ) → (mending given pairs).told.number ≡ 0 → Mends given pairs (mending given pairs)
mend_zero given pairs h = go (mending given pairs).told refl (tells-here given pairs)
  where
    go : (t : Told) → (mending given pairs).told ≡ t → Tells given pairs t → Mends given pairs (mending given pairs)
    go t e (no_domains x) = let n = ap (λ (t : Told). t.number) e in absurd (omega arith)
    go t e (many_domains x) = let n = ap (λ (t : Told). t.number) e in absurd (omega arith)
    go t e (row_fails i r f) = let n = ap (λ (t : Told). t.number) e in absurd (omega arith)
    go t e (no_room r p x) = let n = ap (λ (t : Told). t.number) e in absurd (omega arith)
    go t e (mends r p x) = mend_answers given pairs r p x

-- A list of 240 places is never too short.
pub never-short : (given pairs : List ℕ) → 240 ≤ length pairs → (mending given pairs).told ≡ refused 16 → ⊥
never-short given pairs h e = go (refused 16) refl ((mend_exactly given pairs (refused 16)).0 e)
  where
    go : (t : Told) → t ≡ refused 16 → Tells given pairs t → ⊥
    go t q (no_domains x) = let n = ap (λ (t : Told). t.number) q in omega arith
    go t q (many_domains x) = let n = ap (λ (t : Told). t.number) q in omega arith
    go t q (row_fails i r f) = let n = ap (λ (t : Told). t.number) q in omega arith
    go t q (no_room r p x) =
        omega (arith, added-most (length given) (full given) (policy_full given r.high p), many given r.high)
    go t q (mends r p x) = let n = ap (λ (t : Told). t.number) q in omega arith

-- No transitive relation over the rows lacks a listed pair.
pub none_lacks : (given pairs : List ℕ) (o : Outcome) (m : Mends given pairs o) (qs : List ℕ) → Holds (full given) qs → WithoutGap qs (length given)
    → (k : ℕ) → k < m.n → flows qs (get_or o.pairs k 0 / 16) (get_or o.pairs k 0 % 16) ≡ true
none_lacks given pairs o m qs h w k l =
    (m.smallest.least qs h w).all _ _ (rw (get_or-take m.n o.pairs k 0 l) at (m.begins.only k (rw m.many l)).0)

-- A policy that is transitive comes back as it was, with nothing added.
pub whole_back : (given pairs : List ℕ) → InRange given → Passing (length given) given → WithoutGap (full given) (length given)
    → mending given pairs ≡ record { told = answered (0 ∷ []); rows = full given; pairs = pairs }
whole_back given pairs r p w =
    let e : mended (length given) (full given) ≡ full given = mended-whole (length given) (full given) (policy_full given r.high p) (full_long given r.high) w in
    let a : added (full given) (mended (length given) (full given)) 256 ≡ [] = rw e (none-added (full given) 256) in
    let z : missing given ≡ 0 = sym (many given r.high) ∙ ap length a in
    told-done given pairs (count_in _ r.low r.high) (passing_none given p) (omega arith) ∙ rw (z, a, e)

-- Mending twice changes nothing: the rows of an answer, mended again, come back with nothing added.
module _ (given pairs : List ℕ) (o : Outcome) (r : InRange given) (m : Mends given pairs o) where
  again : List ℕ
  again = take (length given) o.rows

  again_long : length again ≡ length given
  unfolding again
  again_long = length-take-le (length given) o.rows (omega (arith, m.sixteen.long, r.high))

  again_split : again ++ drop (length given) o.rows ≡ o.rows
  unfolding again
  again_split = take-append-drop (length given) o.rows

  again_full : full again ≡ o.rows
  again_full =
      let z : drop (length given) o.rows ≡ replicate (16 - length given) 0 = unused_by o.rows (length given) 16 0 m.sixteen.long (λ i h k. m.policy.unused i h) in
      rw (again_long, ← z) again_split

  pub mended_back : (more : List ℕ) → mending (take (length given) o.rows) more ≡ record { told = answered (0 ∷ []); rows = o.rows; pairs = more }
  unfolding again
  mended_back more =
      let l : length again ≡ length given = again_long in
      whole_back again more (record { low = rw l r.low; high = rw l r.high }) (policy_passing again (rw (again_full, l) m.policy)) (rw (again_full, l) m.smallest.transitive) ∙ rw again_full

-- A result of the code can be read back from what it tells: no second one fits.
one : List ℕ → ℕ
one [] = 0
one (v ∷ vs) = v

back : Outcome → Result Mended Unmendable
unfolding one pick
back o = pick (eqb o.told.number 5) (Err BadCount)
    (pick (eqb o.told.number 6) (Err (BadRow (one o.told.values)))
    (pick (eqb o.told.number 16) (Err NoRoom) (Ok (record { added = one o.told.values; rows = o.rows }))))

back_outcome : (r : Result Mended Unmendable) (p : List ℕ) → back (outcome r p) ≡ r
unfolding back
back_outcome (Ok m) p = refl
back_outcome (Err BadCount) p = refl
back_outcome (Err (BadRow i)) p = refl
back_outcome (Err NoRoom) p = refl

outcome_pairs : (r : Result Mended Unmendable) (p : List ℕ) → (outcome r p).pairs ≡ p
outcome_pairs (Ok m) p = refl
outcome_pairs (Err why) p = refl

pub mend_unique : (given pairs : List ℕ) (r s : Result Mended Unmendable) (p q : List ℕ) → outcome r p ≡ mending given pairs → outcome s q ≡ mending given pairs → (r ≡ s) × (p ≡ q)
mend_unique given pairs r s p q e f =
    let o : outcome r p ≡ outcome s q = e ∙ sym f in
    (sym (back_outcome r p) ∙ ap back o ∙ back_outcome s q, sym (outcome_pairs r p) ∙ ap (λ (o : Outcome). o.pairs) o ∙ outcome_pairs s q)
