-- Reading some steps at a time changes nothing: the lines of the steps read first, and behind them those of the rest played from the
-- state that the first ones left.
use Prim.Native.Nat.{ℕ, zero, suc, ◌+◌, ◌-◌, ◌*◌, ◌≤◌, ◌<◌}
use mathlib.Core.Path.{◌≡◌, refl, ap, sym, ◌∙◌, subst}
use mathlib.Core.List.{List, [], ◌++◌, append-nil, append_assoc}
use native.Mathlib.Omega.{arith}
use native.Mathlib.Nat.{suc-mul, add-mul, add-suc, add-zero, le_antisymm, le_of_mul-le-mul_right}
use lib.ListN.{length, drop, length-append, length-drop}
use lib.Seq.{take-append-le, drop-append-le, drop-append-add}
use Rattle.basis.specs.Ceil.{ceil}
use Rattle.basis.proofs.CeilLaws.{ceil_least, ceil_covers}
use Rattle.table.specs.declared.Table.{Table}
use Rattle.state.specs.declared.State.{State}
use Rattle.bench.specs.Text.{Run, play, bytes_of, played, played_all, from}
use Rattle.bench.proofs.PlayLaws.{Adds, play_adds, played-none, played-suc}

-- Steps of a front are those of the whole.
front-step : (xs ys : List ℕ) (n k : ℕ) → suc k * n ≤ length xs → bytes_of n k (xs ++ ys) ≡ bytes_of n k xs
front-step xs ys n k h =
    let e = suc-mul k n in
    rw (drop-append-le (k * n) xs ys (omega arith)) (take-append-le n (drop (k * n) xs) ys (omega (arith, length-drop (k * n) xs)))

module _ (t : Table) (xs ys : List ℕ) where
  pub front-played : (r : Run) (k : ℕ) → k * t.count ≤ length xs → played t (xs ++ ys) r k ≡ played t xs r k
  front-played r zero h = played-none t (xs ++ ys) r ∙ sym (played-none t xs r)
  front-played r (suc k) h =
      let e = suc-mul k t.count in
      rw (played-suc t (xs ++ ys) r k, played-suc t xs r k, front-step xs ys t.count k h, front-played r k (omega arith))

  -- and steps behind it are those of the rest
  rest_played : (r : Run) (m k : ℕ) → length xs ≡ m * t.count → played t (xs ++ ys) r (m + k) ≡ played t ys (played t xs r m) k
  rest_played r m zero e = rw (add-zero, played-none t ys (played t xs r m)) (front-played r m (omega arith))
  rest_played r m (suc k) e =
      let p : (m + k) * t.count ≡ length xs + k * t.count = add-mul m k t.count ∙ rw (← e) in
      rw (add-suc m k, played-suc t (xs ++ ys) r (m + k), played-suc t ys (played t xs r m) k, p, drop-append-add xs ys (k * t.count), rest_played r m k e)

-- As many steps as whole steps were read first, and as many as the rest asks for.
pub ceil-whole : (m b l : ℕ) → 0 < b → ceil (m * b + l) b ≡ m + ceil l b
ceil-whole m b l some =
    let c = ceil (m * b + l) b in
    let below : c ≤ m + ceil l b =
    ceil_least (m * b + l) b (m + ceil l b) some (omega (arith, add-mul m (ceil l b) b, ceil_covers l b some)) in
    let covers : m * b + l ≤ c * b = ceil_covers (m * b + l) b some in
    let least : m ≤ c = le_of_mul-le-mul_right {m = m} {n = c} {k = b} (omega arith) some in
    let split : c ≡ m + (c - m) = omega arith in
    let e : c * b ≡ m * b + (c - m) * b = ap (λ (x : ℕ). x * b) split ∙ add-mul m (c - m) b in
    le_antisymm below (omega (arith, ceil_least l b (c - m) some (omega arith)))

pub ceil-none : (b : ℕ) → 0 < b → ceil 0 b ≡ 0
ceil-none b some = let h : ceil 0 b ≤ 0 = ceil_least 0 b 0 some (omega arith) in omega arith

played_adds : (t : Table) (bs : List ℕ) (r : Run) (k : ℕ) →
    Adds r (played t bs r k) (played t bs (record { lines = []; state = r.state; why = r.why }) k)
played_adds t bs r zero =
    let e : Run = record { lines = []; state = r.state; why = r.why } in
    rw (played-none t bs r, played-none t bs e) (record { lines = sym (append-nil r.lines); state = refl; why = refl })
played_adds t bs r (suc k) =
    let e : Run = record { lines = []; state = r.state; why = r.why } in
    let a = played_adds t bs r k in
    let x = play_adds t (bytes_of t.count k bs) (played t bs r k) in
    let y = play_adds t (bytes_of t.count k bs) (played t bs e k) in
    let z : Adds (played t bs r k) (play t (bytes_of t.count k bs) (played t bs r k))
    (play t (bytes_of t.count k bs) (record { lines = []; state = (played t bs e k).state; why = (played t bs e k).why })) =
    subst (λ (w : State × ℕ). Adds (played t bs r k) (play t (bytes_of t.count k bs) (played t bs r k)) (play t (bytes_of t.count k bs) (record { lines = []; state = w.0; why = w.1 })))
    (λ j. (a.state j, a.why j)) x in
    rw (played-suc t bs r k, played-suc t bs e k)
    (record {
      lines = cc (append_assoc r.lines (played t bs e k).lines (play t (bytes_of t.count k bs) (record { lines = []; state = (played t bs e k).state; why = (played t bs e k).why })).lines);
      state = z.state ∙ sym y.state;
      why = z.why ∙ sym y.why;
    })

open_adds : (t : Table) (bs : List ℕ) (r : Run) (k : ℕ) → r.why ≡ 0 → Adds r (played t bs r k) (played t bs (from r.state) k)
open_adds t bs r k e =
    subst (λ (w : ℕ). Adds r (played t bs r k) (played t bs (record { lines = []; state = r.state; why = w }) k)) e (played_adds t bs r k)

-- A run of whole steps xs that no refusal ended, and behind it the rest ys.
pub chunked : (t : Table) (xs ys : List ℕ) (s : State) (m : ℕ) → 0 < t.count → length xs ≡ m * t.count →
    let a = played_all t xs (from s) in
    a.why ≡ 0 → Adds a (played_all t (xs ++ ys) (from s)) (played_all t ys (from a.state))
chunked t xs ys s m some e w =
    let n = t.count in
    let first : ceil (length xs) n ≡ m = rw (e, ← add-zero (m * n), ceil-whole m n 0 some, ceil-none n some) (add-zero m) in
    let all : ceil (length (xs ++ ys)) n ≡ m + ceil (length ys) n = rw (length-append xs ys, e) (ceil-whole m n (length ys) some) in
    let w' : (played t xs (from s) m).why ≡ 0 = rw first at w in
    rw (first, all, rest_played t xs ys (from s) m (ceil (length ys) n) e) (open_adds t ys (played t xs (from s) m) (ceil (length ys) n) w')
