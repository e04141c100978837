-- What two states have in common for a domain d, and that the parts of a step keep it: what d may see is the same, and a
-- hidden thread above a visible one, which could hold the visible one up, has the same account.
use Prim.Native.Nat.{ℕ, zero, suc, ◌+◌}
use native.Mathlib.Nat.{suc_inj, suc-ne-zero}
use mathlib.Core.Path.{◌≡◌, refl, sym, ap, ◌∙◌, subst}
use mathlib.Core.List.{List, [], ◌∷◌}
use mathlib.Core.Bool.{true, false}
use lib.ListN.{length, get_or, set, length-set}
use lib.Seq.{set-get_or}
use Rattle.basis.proofs.TestLaws.{refuted}
use Rattle.table.specs.Threads.{thread}
use Rattle.table.specs.declared.Table.{Table}
use Rattle.state.specs.State.{no_progress, progress, put, each_thread}
use Rattle.state.specs.Release.{has_event, released, release}
use Rattle.state.specs.Methods.{aged, tick}
use Rattle.state.specs.declared.Progress.{Progress}
use Rattle.state.specs.declared.State.{State}
use Rattle.state.proofs.AccountLaws.{account, Fair, Keeps, released_fair, aged_fair}
use Rattle.sight.specs.Shown.{visible}
use Rattle.sight.proofs.GuardLaws.{guards}

-- What two progresses of thread i have in common for d.
pub record Common (t : Table) (d i : ℕ) (p q : Progress) : Type 0 where
  pub seen : visible t d i ≡ true → p ≡ q
  pub held : guards t d i ≡ true → account p ≡ account q

-- What two states have in common for d.
pub record Alike (t : Table) (d : ℕ) (s r : State) : Type 0 where
  pub clocks : s.clock ≡ r.clock
  pub long : length s.threads ≡ length r.threads
  pub common : (i : ℕ) → Common t d i (progress s i) (progress r i)

-- A store at the same place of two lists keeps what is common at every place.
stored : (R : ℕ → Progress → Progress → Type 0) (ps qs : List Progress) → length ps ≡ length qs → (i : ℕ) (x y : Progress) → R i x y
    → ((j : ℕ) → R j (get_or ps j no_progress) (get_or qs j no_progress))
    → (j : ℕ) → R j (get_or (set ps i x) j no_progress) (get_or (set qs i y) j no_progress)
stored R [] [] e i x y h all j = all j
stored R [] (q ∷ qs) e i x y h all j = absurd (suc-ne-zero _ (sym e))
stored R (p ∷ ps) [] e i x y h all j = absurd (suc-ne-zero _ e)
stored R (p ∷ ps) (q ∷ qs) e zero x y h all zero = h
stored R (p ∷ ps) (q ∷ qs) e zero x y h all (suc j) = all (suc j)
stored R (p ∷ ps) (q ∷ qs) e (suc i) x y h all zero = all zero
stored R (p ∷ ps) (q ∷ qs) e (suc i) x y h all (suc j) = stored (λ k. R (suc k)) ps qs (suc_inj e) i x y h (λ k. all (suc k)) j

module _ (t : Table) (d : ℕ) where
  pub alike_refl : (s : State) → Alike t d s s
  alike_refl s = record { clocks = refl; long = refl; common = λ i. record { seen = λ v. refl; held = λ g. refl } }

  pub alike_sym : {s r : State} → Alike t d s r → Alike t d r s
  alike_sym a = record {
    clocks = sym a.clocks;
    long = sym a.long;
    common = λ i. record { seen = λ v. sym ((a.common i).seen v); held = λ g. sym ((a.common i).held g) };
  }

  pub alike_trans : {s r q : State} → Alike t d s r → Alike t d r q → Alike t d s q
  alike_trans a b = record {
    clocks = a.clocks ∙ b.clocks;
    long = a.long ∙ b.long;
    common = λ i. record { seen = λ v. (a.common i).seen v ∙ (b.common i).seen v; held = λ g. (a.common i).held g ∙ (b.common i).held g };
  }

  pub alike_put : (s r : State) → Alike t d s r → (i : ℕ) (x y : Progress) → Common t d i x y → Alike t d (put s i x) (put r i y)
  alike_put s r a i x y c = record {
    clocks = a.clocks;
    long = simp length-set a.long;
    common = stored (Common t d) s.threads r.threads a.long i x y c a.common;
  }

  -- The same fair change on both sides.
  pub alike_change : (f : Progress → Progress) → Fair f → (s r : State) (i : ℕ) → Alike t d s r
      → Alike t d (put s i (f (progress s i))) (put r i (f (progress r i)))
  alike_change f fair s r i a =
      let c : Common t d i (progress s i) (progress r i) = a.common i in
      alike_put s r a i _ _ (record { seen = λ v. ap f (c.seen v); held = λ g. fair _ _ (c.held g) })

  -- A store on one side only.
  alike_store : (s : State) (i : ℕ) (x : Progress) → Common t d i (progress s i) x → Alike t d s (put s i x)
  alike_store s i x c = rw (set-get_or s.threads i no_progress) at (alike_put s s (alike_refl s) i (progress s i) x c)

  -- A thread that d may not see, changed so that its account is kept.
  pub alike_kept : (f : Progress → Progress) → Keeps f → (s : State) (i : ℕ) → visible t d i ≡ false
      → Alike t d s (put s i (f (progress s i)))
  alike_kept f keeps s i v = alike_store s i _ (record { seen = λ w. refuted w v; held = λ g. sym (keeps _) })

  -- A thread that d may not see and that stands above no visible one, changed at will.
  pub alike_hidden : (s : State) (i : ℕ) (x : Progress) → visible t d i ≡ false → guards t d i ≡ false → Alike t d s (put s i x)
  alike_hidden s i x v g = alike_store s i x (record { seen = λ w. refuted w v; held = λ w. refuted w g })

  -- Each thread changed fairly, on both sides.
  alike_each : (f : ℕ → Progress → Progress) → ((i : ℕ) → Fair (f i)) → (n : ℕ) (s r : State) → Alike t d s r
      → Alike t d (each_thread f n s) (each_thread f n r)
  unfolding each_thread
  alike_each f fair zero s r a = a
  alike_each f fair (suc n) s r a = alike_change (f n) (fair n) _ _ n (alike_each f fair n s r a)

  pub alike_release : (mask : ℕ) (s r : State) → Alike t d s r → Alike t d (release t mask s) (release t mask r)
  unfolding release
  alike_release mask s r a =
      let own : ℕ → ℕ → Progress → Progress = λ c i. released (thread t i) c (has_event mask i) in
      subst (λ (c : ℕ). Alike t d (each_thread (own s.clock) t.count s) (each_thread (own c) t.count r)) a.clocks
      (alike_each (own s.clock) (λ i. released_fair (thread t i) s.clock (has_event mask i)) t.count s r a)

  pub alike_tick : (s r : State) → Alike t d s r → Alike t d (tick t s) (tick t r)
  unfolding tick
  alike_tick s r a =
      let e = alike_each (λ i. aged (thread t i)) (λ i. aged_fair (thread t i)) t.count s r a in
      record { clocks = ap (λ n. n + 1) a.clocks; long = e.long; common = e.common }
