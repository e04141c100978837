-- A turn: nothing came, or what came was read behind the rest that was there.
use Prim.Native.Nat.{ℕ, zero, suc, ◌+◌, ◌-◌, ◌≤◌, ◌<◌}
use mathlib.Core.Path.{◌≡◌, ap, sym, ◌∙◌}
use mathlib.Core.List.{List, [], ◌∷◌, ◌++◌, append-nil}
use mathlib.Core.Bool.{Bool}
use native.Mathlib.Omega.{arith}
use native.Mathlib.Nat.{zero-add, suc-add, mod-eq_of_lt}
use lib.ListN.{length, take, drop, take-append-drop, length-drop}
use lib.Seq.{length-take-le, take-take}
use Rattle.table.specs.declared.Table.{Table}
use Rattle.state.specs.declared.State.{State}
use Rattle.bench.specs.Text.{Run, played, played_all, from}
use Rattle.bench.specs.Playing.{Answers, Turned}
use Rattle.bench.specs.declared.turn.Turn.{Turn}
use Rattle.bench.proofs.PlayLaws.{played-none}
use Rattle.bench.proofs.ChunkLaws.{ceil-none}

drop_of_take : (i n : ℕ) (l : List ℕ) → drop i (take (i + n) l) ≡ take n (drop i l)
drop_of_take zero n l = rw (zero-add n)
drop_of_take (suc i) zero [] = rw (suc-add i 0)
drop_of_take (suc i) (suc n) [] = rw (suc-add i (suc n))
drop_of_take (suc i) n (x ∷ l) = rw (suc-add i n) (drop_of_take i n l)

no_steps : (t : Table) (s : State) → 0 < t.count → played_all t [] (from s) ≡ from s
no_steps t s h = ap (played t [] (from s)) (ceil-none t.count h) ∙ played-none t [] (from s)

-- The same state, and the rest that was there.
pub turned_none : (t : Table) (s : State) (rest : ℕ) (b b' : List ℕ) (more : Bool) → rest < t.count → take rest b' ≡ take rest b
    → Turned t s rest b (record { state = s; have = rest; «open» = more }) b'
turned_none t s rest b b' more h e =
    let z : rest + 0 - rest ≡ 0 = omega arith in
    let m : rest + 0 ≡ rest = omega arith in
    record {
      came = [];
      state = rw z (ap (λ (r : Run). r.state) (sym (no_steps t s (omega arith))));
      have = rw m (sym (mod-eq_of_lt h));
      left = rw z (e ∙ sym (append-nil (take rest b)));
    }

-- What stands behind the rest up to n came.
pub turned-some : (t : Table) (s : State) (rest n : ℕ) (b d : List ℕ) (r : Turn) (b' : List ℕ) → rest ≤ n → n ≤ length d → take rest d ≡ take rest b
    → r.have ≤ n → Answers t s n d r b' → Turned t s rest b r b'
turned-some t s rest n b d r b' h k e low a =
    let came : List ℕ = drop rest (take n d) in
    let all : take rest b ++ came ≡ take n d
    = ap (λ (l : List ℕ). l ++ came) (sym e ∙ sym (take-take rest n d h)) ∙ take-append-drop rest (take n d) in
    let count : rest + length came ≡ n = omega (arith, length-drop rest (take n d), length-take-le n d k) in
    let split : n - r.have + r.have ≡ n = omega arith in
    record {
      came = came;
      state = rw (count, all, take-take (n - r.have) n d (omega arith)) a.state;
      have = rw count a.have;
      left = rw (count, all) (a.rest ∙ sym (drop_of_take (n - r.have) r.have d) ∙ ap (λ (k : ℕ). drop (n - r.have) (take k d)) split);
    }
