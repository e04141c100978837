-- No second run fits: the block and the step behind it are what single calls of the step give, up to the first that is refused.
use Prim.Native.Nat.{ℕ, zero, suc, ◌+◌, ◌-◌, ◌*◌, ◌≤◌, ◌<◌}
use mathlib.Core.Path.{◌≡◌, refl, sym, ◌∙◌, ap, ap₂}
use mathlib.Core.List.{List, [], ◌∷◌, ◌++◌, map, append-nil, append_assoc}
use native.Mathlib.Omega.{arith}
use borrow.Author.Tests.{ne_eqb, eqb-true, eqb-false, ltb-true, ltb-false}
use lib.ListN.{length, get_or, take, drop, length-map, take-append-drop, length-drop}
use lib.Seq.{length-take-le, get_or-take, take-append-le, drop-append-le}
use lib.Dec.{eqb, ltb}
use Rattle.basis.specs.Tests.{pick}
use Rattle.basis.specs.Search.{listed}
use Rattle.basis.specs.Turns.{in_turn, after}
use Rattle.basis.proofs.TestLaws.{by_test}
use Rattle.basis.proofs.TurnLaws.{turns-length}
use Rattle.table.specs.declared.Table.{Table}
use Rattle.state.specs.State.{Fits}
use Rattle.state.specs.declared.State.{State}
use Rattle.frame.specs.Mode.{Mode}
use Rattle.walk.specs.Step.{Input, step}
use Rattle.scheduler.specs.Taken.{Taken, took, taken}
use Rattle.scheduler.specs.Calls.{calls, steps}
use Rattle.block.specs.Block.{byte_of, input_at, inputs, refusal, Blocked}
use Rattle.block.proofs.StretchLaws.{inputs-next, inputs-length, part-inside}
use Rattle.block.proofs.JoinLaws.{inputs_join}
use Rattle.block.proofs.RecordLaws.{block-number}
use Rattle.block.proofs.CallLaws.{block-calls, block-state, block-trace}
use Rattle.runs.specs.Playing.{whole_steps, Run, then_run, one_by_one, run_of, played}
use Rattle.runs.specs.Stopping.{Plays}
use Rattle.runs.specs.Playing.{Played}
use Rattle.runs.proofs.PlayLaws.{masks_inside, bytes_inside}

module _ (t : Table) (mode : Mode) where
  -- A step that is not refused, and one that is.
  one-made : (x : Input) (xs : List Input) (s : State) → (taken t mode x s).told.number ≡ 0
      → one_by_one t mode (x ∷ xs) s ≡ then_run (taken t mode x s) (one_by_one t mode xs (taken t mode x s).state)
  unfolding one_by_one pick
  one-made x xs s e = rw e

  one-refused : (x : Input) (xs : List Input) (s : State) (why : ℕ) → (taken t mode x s).told.number ≡ why → 0 < why
      → one_by_one t mode (x ∷ xs) s ≡ record { bytes = []; state = s; why = why }
  unfolding one_by_one pick
  one-refused x xs s why e h = rw (e, ne_eqb why 0 (λ q. omega arith))

  one_none : (s : State) → one_by_one t mode [] s ≡ record { bytes = []; state = s; why = 0 }
  unfolding one_by_one
  one_none s = refl

  -- Behind steps none of which is refused come the others, from the state that they left.
  abbrev pub behind : Run → Run → Run
  behind r q = record { bytes = r.bytes ++ q.bytes; state = q.state; why = q.why }

  pub in_parts : (xs ys : List Input) (s : State) → (one_by_one t mode xs s).why ≡ 0
      → one_by_one t mode (xs ++ ys) s ≡ behind (one_by_one t mode xs s) (one_by_one t mode ys (one_by_one t mode xs s).state)
  in_parts [] ys s e = rw (one_none s)
  in_parts (x ∷ xs) ys s e =
      by_test (eqb (taken t mode x s).told.number 0)
      (λ h. let z : (taken t mode x s).told.number ≡ 0 = eqb-true _ _ h in
      let w : (one_by_one t mode xs (taken t mode x s).state).why ≡ 0 = rw (one-made x xs s z) at e in
      rw (one-made x (xs ++ ys) s z, one-made x xs s z) (ap (then_run (taken t mode x s)) (in_parts xs ys (taken t mode x s).state w)))
      (λ h. let n : ℕ = (taken t mode x s).told.number in
      let d : 0 < n = let q = eqb-false n 0 h in omega arith in
      absurd (omega (arith, ap (λ (r : Run). r.why) (one-refused x xs s n refl d), e, d)))

  -- Calls that are all steps.
  all_made : (xs : List Input) (s : State) → calls t mode xs s ≡ map took (steps t mode xs s)
      → one_by_one t mode xs s ≡ record { bytes = map byte_of (calls t mode xs s); state = after (taken t mode) (λ (r : Taken). r.state) xs s; why = 0 }
  unfolding calls steps in_turn after
  all_made [] s e = one_none s
  all_made (x ∷ xs) s e =
      let c : taken t mode x s ≡ took (step t mode x s) = ap (λ (l : List Taken). get_or l 0 (taken t mode x s)) e in
      let z : (step t mode x s).state ≡ (taken t mode x s).state = ap (λ (r : Taken). r.state) (sym c) in
      let more : calls t mode xs (taken t mode x s).state ≡ map took (steps t mode xs (taken t mode x s).state)
      = ap (drop 1) e ∙ ap (λ (y : State). map took (steps t mode xs y)) z in
      one-made x xs s (ap (λ (r : Taken). r.told.number) c) ∙ ap (then_run (taken t mode x s)) (all_made xs (taken t mode x s).state more)

-- The steps of a front of masks and bytes are those of the whole.
module _ (t : Table) (masks bs : List ℕ) (n : ℕ) (h : n ≤ whole_steps t masks bs) where
  input_front : (k : ℕ) → k < n → input_at t (take n masks) (take (n * t.count) bs) k ≡ input_at t masks bs k
  unfolding input_at
  input_front k l =
      let c : ℕ = t.count in
      let front : List ℕ = take (n * c) bs in
      let long : length front ≡ n * c = length-take-le (n * c) bs (bytes_inside t masks bs n h) in
      let inside : k * c + c ≤ n * c = part-inside k n c l in
      let a : drop (k * c) bs ≡ drop (k * c) front ++ drop (n * c) bs
      = ap (drop (k * c)) (sym (take-append-drop (n * c) bs)) ∙ drop-append-le (k * c) front (drop (n * c) bs) (omega arith) in
      let b : take c (drop (k * c) front) ≡ take c (drop (k * c) bs)
      = sym (ap (take c) a ∙ take-append-le c (drop (k * c) front) (drop (n * c) bs) (omega (arith, length-drop (k * c) front))) in
      rw (get_or-take n masks k 0 l, b)

  inputs-front : (j : ℕ) → j ≤ n → inputs t (take n masks) (take (n * t.count) bs) 0 j ≡ inputs t masks bs 0 j
  unfolding inputs listed
  inputs-front zero l = refl
  inputs-front (suc j) l = ap₂ ◌++◌ (inputs-front j (omega arith)) (ap (λ (x : Input). x ∷ []) (input_front (0 + j) (omega arith)))

-- The step behind the first n, and those behind it.
step-behind : (t : Table) (masks bs : List ℕ) (n whole : ℕ) → n < whole
    → inputs t masks bs 0 whole ≡ inputs t masks bs 0 n ++ (input_at t masks bs n ∷ inputs t masks bs (n + 1) (whole - (n + 1)))
step-behind t masks bs n whole h =
    let e : whole ≡ n + 1 + (whole - (n + 1)) = omega arith in
    let z : 0 + n ≡ n = omega arith in
    ap (inputs t masks bs 0) e ∙ inputs_join t masks bs (n + 1) (whole - (n + 1))
    ∙ ap (λ (xs : List Input). xs ++ inputs t masks bs (n + 1) (whole - (n + 1))) (inputs-next t masks bs 0 n ∙ ap (λ (k : ℕ). inputs t masks bs 0 n ++ (input_at t masks bs k ∷ [])) z)
    ∙ append_assoc (inputs t masks bs 0 n) (input_at t masks bs n ∷ []) (inputs t masks bs (n + 1) (whole - (n + 1)))

module _ (t : Table) (mode : Mode) (s : State) (f : Fits t s) (masks bs part : List ℕ) (r : Played) (part' : List ℕ) (p : Plays t mode s masks bs part r part') where
  abbrev front_masks : List ℕ
  front_masks = take r.n masks

  abbrev front_bytes : List ℕ
  front_bytes = take (r.n * t.count) bs

  abbrev xs : List Input
  xs = inputs t front_masks front_bytes 0 (length front_masks)

  many : length front_masks ≡ r.n
  many = length-take-le r.n masks (masks_inside t masks bs r.n p.within)

  same-steps : xs ≡ inputs t masks bs 0 r.n
  same-steps = ap (inputs t front_masks front_bytes 0) many ∙ inputs-front t masks bs r.n p.within r.n (omega arith)

  unrefused : refusal t mode front_masks front_bytes s (length part) ≡ 0
  unrefused = sym (block-number t mode front_masks front_bytes s part) ∙ sym (ap (λ (b : Blocked). b.number) p.made)

  abbrev bytes_made : List ℕ
  bytes_made = map byte_of (calls t mode xs s)

  -- The calls of the block ..
  first_made : one_by_one t mode (inputs t masks bs 0 r.n) s ≡ record { bytes = bytes_made; state = r.state; why = 0 }
  first_made =
      let z : after (taken t mode) (λ (r : Taken). r.state) xs s ≡ r.state
      = sym (block-state t mode front_masks front_bytes s part f.long unrefused) ∙ sym (ap (λ (b : Blocked). b.state) p.made) in
      ap (λ (ys : List Input). one_by_one t mode ys s) (sym same-steps) ∙ all_made t mode xs s (block-calls t mode front_masks front_bytes s part f.long unrefused)
      ∙ (λ i. record { bytes = bytes_made; state = z i; why = 0 })

  -- .. and the one behind it.
  then-refused : r.n < whole_steps t masks bs → run_of t mode masks bs s ≡ record { bytes = bytes_made; state = r.state; why = r.why }
  then-refused h =
      let ys : List Input = input_at t masks bs r.n ∷ inputs t masks bs (r.n + 1) (whole_steps t masks bs - (r.n + 1)) in
      ap (λ (zs : List Input). one_by_one t mode zs s) (step-behind t masks bs r.n (whole_steps t masks bs) h)
      ∙ in_parts t mode (inputs t masks bs 0 r.n) ys s (ap (λ (q : Run). q.why) first_made)
      ∙ ap (λ (q : Run). behind t mode q (one_by_one t mode ys q.state)) first_made
      ∙ ap (λ (q : Run). behind t mode (record { bytes = bytes_made; state = r.state; why = 0 }) q) (one-refused t mode _ _ r.state r.why (p.stopped h).1 (p.stopped h).0)
      ∙ ap (λ (l : List ℕ). record { bytes = l; state = r.state; why = r.why }) (append-nil bytes_made)

  all_whole : r.n ≡ whole_steps t masks bs → run_of t mode masks bs s ≡ record { bytes = bytes_made; state = r.state; why = r.why }
  all_whole e =
      ap (λ (n : ℕ). one_by_one t mode (inputs t masks bs 0 n) s) (sym e) ∙ first_made
      ∙ ap (λ (n : ℕ). record { bytes = bytes_made; state = r.state; why = n }) (sym (p.ended e))

  run-made : run_of t mode masks bs s ≡ record { bytes = bytes_made; state = r.state; why = r.why }
  run-made =
      by_test (ltb r.n (whole_steps t masks bs)) (λ l. then-refused (ltb-true _ _ l))
      (λ l. all_whole (let u = ltb-false r.n (whole_steps t masks bs) l in omega (arith, p.within)))

  bytes_many : length bytes_made ≡ r.n
  unfolding calls
  bytes_many =
      length-map (calls t mode xs s) byte_of ∙ turns-length (taken t mode) (λ (r : Taken). r.state) xs s ∙ inputs-length t front_masks front_bytes 0 (length front_masks) ∙ many

  part-made : part' ≡ bytes_made ++ drop r.n part
  part-made =
      ap (λ (b : Blocked). b.part) p.made ∙ block-trace t mode front_masks front_bytes s part f.long unrefused
      ∙ ap (λ (n : ℕ). bytes_made ++ drop n part) many

  -- What fits is what the single calls give: no second state, number, count or part does.
  pub plays_only : (r, part') ≡ played (run_of t mode masks bs s) part
  plays_only =
      (λ i. (record { state = r.state; why = r.why; n = sym bytes_many i }, (part-made ∙ ap (λ (n : ℕ). bytes_made ++ drop n part) (sym bytes_many)) i))
      ∙ ap (λ (q : Run). played q part) (sym run-made)
