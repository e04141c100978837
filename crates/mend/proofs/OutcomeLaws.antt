-- The whole call: which number is given when, what a refusal leaves, what an answer holds, and that no second result fits.
use Prim.Native.Nat.{ℕ, ◌-◌, ◌≤◌, ◌<◌}
use mathlib.Core.Path.{◌≡◌, sym, ◌∙◌}
use mathlib.Core.List.{List, [], ◌∷◌, ◌++◌}
use Rattle.std.specs.Prelude.{Ok}
use mathlib.Core.Bool.{true, false}
use native.Mathlib.Omega.{arith}
use borrow.Author.Tests.{le-leb, lt-leb, leb-true}
use lib.Dec.{leb}
use lib.ListN.{length, get_or, drop, replicate, length-append, length-replicate, get_or-eq_default}
use Rattle.basis.specs.Tests.{pick}
use Rattle.basis.specs.Search.{nothing, found, first}
use Rattle.basis.specs.Told.{answered, refused}
use Rattle.basis.proofs.ListLaws.{padded}
use Rattle.basis.proofs.SearchLaws.{first-nothing}
use Rattle.basis.proofs.TestLaws.{by_test, fails, and_both, and-of}
use Rattle.flow.specs.Flow.{row_ok}
use Rattle.mend.specs.Rows.{mended, added, count}
use Rattle.mend.specs.Mend.{full, count_ok, bad_at, bad_row, refusing, answering, judging, mending, outcome}
use Rattle.mend.specs.Plain.{Policy}
use Rattle.mend.proofs.RefusalLaws.{bad_hit}
use Rattle.mend.proofs.MendLaws.{mended_keeps}
use Rattle.mend.proofs.CountLaws.{Wider, added-count}

-- The count of domains is in range, or not.
pub count_in : (n : ℕ) → 1 ≤ n → n ≤ 16 → count_ok n ≡ true
unfolding count_ok
count_in n h k = and-of (le-leb 1 n h) (le-leb n 16 k)

pub count_out : (n : ℕ) → count_ok n ≡ true → (1 ≤ n) × (n ≤ 16)
unfolding count_ok
count_out n e = let b = and_both (leb 1 n) (leb n 16) e in (leb-true 1 n b.0, leb-true n 16 b.1)

pub count-zero : (n : ℕ) → n ≡ 0 → count_ok n ≡ false
count-zero n e = fails _ (λ t. omega (arith, (count_out n t).0))

pub count_over : (n : ℕ) → 16 < n → count_ok n ≡ false
count_over n h = fails _ (λ t. omega (arith, (count_out n t).1))

-- The rows with zeros behind them.
pub full_at : (given : List ℕ) (i : ℕ) → get_or (full given) i 0 ≡ get_or given i 0
full_at given i = padded given (16 - length given) i 0

pub full_long : (given : List ℕ) → length given ≤ 16 → length (full given) ≡ 16
full_long given h = length-append given (replicate (16 - length given) 0) ∙ rw (length-replicate {A = ℕ} (16 - length given) 0) (omega arith)

pub found-not : {i : ℕ} → found i ≡ nothing → ⊥
found-not e = let z : ◌≡◌ {A = ℕ} 0 1 = cc in omega arith

pub opened_row : (d : ℕ) (rows : List ℕ) → bad_row d rows ≡ nothing → first d (bad_at d rows) ≡ nothing
unfolding bad_row
opened_row d rows e = e

-- No row fails exactly where the rows are those of a policy.
pub policy_of : (given : List ℕ) → length given ≤ 16 → bad_row (length given) (full given) ≡ nothing → Policy (length given) (full given)
policy_of given h e = record {
  few = h;
  passing = record {
    at = λ i l. passes (length given) (full given) i (first-nothing (bad_at (length given) (full given)) (length given) i (opened_row (length given) (full given) e) l);
  };
  unused = λ i l. full_at given i ∙ get_or-eq_default given 0 l;
}
  where
    passes : (d : ℕ) (rows : List ℕ) (i : ℕ) → bad_at d rows i ≡ nothing → row_ok d i (get_or rows i 0) ≡ true
    passes d rows i e = by_test (row_ok d i (get_or rows i 0)) (λ t. t) (λ t. absurd (found-not (sym (bad_hit d rows i t) ∙ e)))

-- What the mended rows have, so that their ones can be counted.
pub mended_wider : (d : ℕ) (rows : List ℕ) → d ≤ 16 → Wider rows (mended d rows)
mended_wider d rows h = record { at = mended_keeps d rows h }

-- Each way through the code.
pub told-count : (given pairs : List ℕ) → count_ok (length given) ≡ false → refusing (refused 5) pairs ≡ mending given pairs
unfolding mending pick
told-count given pairs e = rw e

pub told_row : (given pairs : List ℕ) (i : ℕ) → count_ok (length given) ≡ true → bad_row (length given) (full given) ≡ found i
    → refusing (record { number = 6; values = i ∷ [] }) pairs ≡ mending given pairs
unfolding mending judging pick
told_row given pairs i e f = rw (e, f)

pub told-short : (given pairs : List ℕ) → count_ok (length given) ≡ true → bad_row (length given) (full given) ≡ nothing
    → length pairs < count (full given) (mended (length given) (full given)) 16 → refusing (refused 16) pairs ≡ mending given pairs
unfolding mending judging answering pick
told-short given pairs e f h = rw (e, f, lt-leb _ _ h)

pub told-done : (given pairs : List ℕ) → count_ok (length given) ≡ true → bad_row (length given) (full given) ≡ nothing
    → count (full given) (mended (length given) (full given)) 16 ≤ length pairs
    → mending given pairs
    ≡ record {
      told = answered (count (full given) (mended (length given) (full given)) 16 ∷ []);
      rows = mended (length given) (full given);
      pairs = added (full given) (mended (length given) (full given)) 256 ++ drop (count (full given) (mended (length given) (full given)) 16) pairs;
    }
unfolding mending judging answering pick
told-done given pairs e f h = rw (e, f, le-leb _ _ h)

-- An answered one.
pub done_as : (given pairs rows ms exit : List ℕ) (n : ℕ) → rows ≡ full given → ms ≡ mended (length given) (full given) → n ≡ count rows ms 16
    → exit ≡ added rows ms 256 ++ drop (length (added rows ms 256)) pairs
    → count_ok (length given) ≡ true → bad_row (length given) (full given) ≡ nothing → n ≤ length pairs
    → outcome (Ok (record { added = n; rows = ms })) exit ≡ mending given pairs
done_as given pairs rows ms exit n er em en ee c b h =
    let f : List ℕ = full given in
    let m : List ℕ = mended (length given) (full given) in
    let k : n ≡ count (full given) (mended (length given) (full given)) 16 = rw (er, em) at en in
    let x : exit ≡ added f m 256 ++ drop (length (added f m 256)) pairs = rw (er, em) at ee in
    let y : exit ≡ added f m 256 ++ drop (count f m 16) pairs = rw (added-count f m (mended_wider (length given) f (count_out (length given) c).1)) at x in
    rw (em, k, y) (sym (told-done given pairs c b (rw k at h)))
