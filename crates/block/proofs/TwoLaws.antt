-- Two blocks one after the other, the second from the first's state and written where it stopped, are one block.
use Prim.Native.Nat.{ℕ, zero, suc, ◌+◌, ◌-◌, ◌*◌, ◌/◌, ◌%◌, ◌≤◌, ◌<◌}
use mathlib.Core.Path.{◌≡◌, refl, sym, ◌∙◌, ap, ap₂}
use mathlib.Core.List.{List, [], ◌∷◌, ◌++◌, append_assoc}
use native.Mathlib.Omega.{arith}
use native.Mathlib.Nat.{zero-add, add-mul, le_refl, mul-mod_left, mul-div_cancel}
use borrow.Author.Tests.{eq-eqb, le-leb, ltb-true, ltb-false}
use mathlib.Core.Bool.{true}
use lib.Dec.{ltb, leb}
use Rattle.basis.specs.Tests.{pick}
use Rattle.basis.proofs.TestLaws.{and-of, by_test, every-at, every-all}
use Rattle.table.specs.Legal.{Sized}
use Rattle.table.proofs.LegalLaws.{legal_sound}
use Rattle.state.specs.State.{last_clock}
use Rattle.walk.proofs.StepLaws.{step_clock}
use Rattle.scheduler.specs.Taken.{mask_ok}
use lib.ListN.{length, get_or, take, drop, length-drop, length-append, get_or-append}
use lib.Seq.{take-append_seam, take-append-le, drop-append-le, drop-append-add, get_or-append-add, drop-drop}
use Rattle.basis.specs.Search.{listed}
use Rattle.table.specs.declared.Table.{Table}
use Rattle.state.specs.declared.State.{State}
use Rattle.frame.specs.Mode.{Mode}
use Rattle.walk.specs.Step.{Input, step}
use Rattle.block.specs.Block.{input_at, inputs, end_of, trace_of, whole, masks_ok, refusal_then, refusal, Blocked, made, block}
use Rattle.block.proofs.StretchLaws.{trace-length, inputs-length, part-inside, clock_at}
use Rattle.block.proofs.RunLaws.{Passes, passes, block_made}
use Rattle.block.proofs.JoinLaws.{inputs_join, end_join, trace_join}
use Rattle.block.proofs.CallLaws.{judged, masked}

module _ (t : Table) (masks masks' bs bs' : List ℕ) (e : length bs ≡ length masks * t.count) where
  -- A step of the first block, and one of the second.
  left : (k : ℕ) → k < length masks → input_at t (masks ++ masks') (bs ++ bs') k ≡ input_at t masks bs k
  unfolding input_at
  left k l =
      let inside : k * t.count + t.count ≤ length masks * t.count = part-inside k (length masks) t.count l in
      let a : drop (k * t.count) (bs ++ bs') ≡ drop (k * t.count) bs ++ bs' = drop-append-le (k * t.count) bs bs' (omega arith) in
      let b : take t.count (drop (k * t.count) bs ++ bs') ≡ take t.count (drop (k * t.count) bs)
      = take-append-le t.count (drop (k * t.count) bs) bs' (omega (arith, length-drop (k * t.count) bs, inside, e)) in
      rw (get_or-append masks masks' 0 k l, a, b)

  right : (k : ℕ) → input_at t (masks ++ masks') (bs ++ bs') (length masks + k) ≡ input_at t masks' bs' k
  unfolding input_at
  right k =
      let a : (length masks + k) * t.count ≡ length bs + k * t.count = add-mul (length masks) k t.count ∙ ap (λ n. n + k * t.count) (sym e) in
      rw (get_or-append-add masks masks' k 0, a, drop-append-add bs bs' (k * t.count))

  lefts : (n : ℕ) → n ≤ length masks → inputs t (masks ++ masks') (bs ++ bs') 0 n ≡ inputs t masks bs 0 n
  unfolding inputs listed
  lefts zero l = refl
  lefts (suc n) l = ap₂ ◌++◌ (lefts n (omega arith)) (ap (λ (x : Input). x ∷ []) (left (0 + n) (omega arith)))

  rights : (n : ℕ) → inputs t (masks ++ masks') (bs ++ bs') (length masks) n ≡ inputs t masks' bs' 0 n
  unfolding inputs listed
  rights zero = refl
  rights (suc n) = ap₂ ◌++◌ (rights n) (ap (λ (x : Input). x ∷ []) (right n ∙ ap (input_at t masks' bs') (sym (zero-add n))))

  both_inputs : inputs t (masks ++ masks') (bs ++ bs') 0 (length (masks ++ masks')) ≡ inputs t masks bs 0 (length masks) ++ inputs t masks' bs' 0 (length masks')
  both_inputs =
      ap (inputs t (masks ++ masks') (bs ++ bs') 0) (length-append masks masks')
      ∙ inputs_join t (masks ++ masks') (bs ++ bs') (length masks) (length masks')
      ∙ ap₂ ◌++◌ (lefts (length masks) (le_refl _)) (rights (length masks'))

two-joined : (t : Table) (mode : Mode) (masks masks' bs bs' : List ℕ) (s : State) (part : List ℕ)
    → refusal t mode masks bs s (length part) ≡ 0
    → refusal t mode masks' bs' (block t mode masks bs s part).state (length (drop (length masks) part)) ≡ 0
    → refusal t mode (masks ++ masks') (bs ++ bs') s (length part) ≡ 0
    → let one = block t mode masks bs s part in
    let two = block t mode masks' bs' one.state (drop (length masks) part) in
    block t mode (masks ++ masks') (bs ++ bs') s part ≡ record { number = 0; values = []; state = two.state; part = take (length masks) one.part ++ two.part; next = length masks + two.next }
unfolding made
two-joined t mode masks masks' bs bs' s part p q r =
    let xs : List Input = inputs t masks bs 0 (length masks) in
    let ys : List Input = inputs t masks' bs' 0 (length masks') in
    let f = step t mode in
    let z : State = end_of f xs s in
    let h : length bs ≡ length masks * t.count = (passes t masks bs s (length part) (judged t mode masks bs s (length part) p).2).long in
    let n : length xs ≡ length masks = inputs-length t masks bs 0 (length masks) in
    let a : take (length masks) (trace_of f xs s ++ drop (length xs) part) ≡ trace_of f xs s
    = ap (λ k. take k (trace_of f xs s ++ drop (length xs) part)) (sym (trace-length f s xs ∙ n)) ∙ take-append_seam (trace_of f xs s) (drop (length xs) part) in
    let one : made f xs s part ≡ block t mode masks bs s part = block_made t mode masks bs s part p in
    let u : (block t mode masks bs s part).state ≡ z = ap (λ (b : Blocked). b.state) (sym one) in
    let v : take (length masks) (block t mode masks bs s part).part ≡ trace_of f xs s = ap (λ (b : Blocked). take (length masks) b.part) (sym one) ∙ a in
    let two : made f ys z (drop (length masks) part) ≡ block t mode masks' bs' (block t mode masks bs s part).state (drop (length masks) part)
    = ap (λ (y : State). made f ys y (drop (length masks) part)) (sym u) ∙ block_made t mode masks' bs' _ (drop (length masks) part) q in
    let w : made f (xs ++ ys) s part ≡ record { number = 0; values = []; state = end_of f ys z; part = trace_of f xs s ++ (trace_of f ys z ++ drop (length ys) (drop (length masks) part)); next = length masks + length ys }
    = λ i. record {
      number = 0;
      values = [];
      state = end_join f s xs ys i;
      part = (ap₂ ◌++◌ (trace_join f s xs ys) (ap (λ k. drop k part) (length-append xs ys ∙ ap (λ k. k + length ys) n) ∙ sym (drop-drop (length ys) (length masks) part))
          ∙ append_assoc (trace_of f xs s) (trace_of f ys z) (drop (length ys) (drop (length masks) part))) i;
      next = (length-append xs ys ∙ ap (λ k. k + length ys) n) i;
    } in
    sym (block_made t mode (masks ++ masks') (bs ++ bs') s part r)
    ∙ ap (λ (l : List Input). made f l s part) (both_inputs t masks masks' bs bs' h)
    ∙ w
    ∙ (λ i. record { number = 0; values = []; state = (two i).state; part = sym v i ++ (two i).part; next = length masks + (two i).next })

-- One byte for each thread and step is what the test of a block's lengths asks.
pub whole_by : (t : Table) (masks bs : List ℕ) → 0 < t.count → length bs ≡ length masks * t.count → whole t masks bs ≡ true
unfolding whole
whole_by t masks bs h e =
    and-of (eq-eqb _ _ (ap (λ n. n % t.count) e ∙ mul-mod_left (length masks) t.count))
    (eq-eqb _ _ (sym (ap (λ n. n / t.count) e ∙ mul-div_cancel (length masks) h)))

-- The masks of both.
masks_both : (t : Table) (masks masks' : List ℕ) → masks_ok t masks ≡ true → masks_ok t masks' ≡ true → masks_ok t (masks ++ masks') ≡ true
unfolding masks_ok
masks_both t masks masks' a b =
    every-all (λ k. mask_ok t (get_or (masks ++ masks') k 0)) (length (masks ++ masks'))
    (λ k l. by_test (ltb k (length masks))
    (λ u. ap (mask_ok t) (get_or-append masks masks' 0 k (ltb-true _ _ u)) ∙ every-at (λ k. mask_ok t (get_or masks k 0)) (length masks) k a (ltb-true _ _ u))
    (λ u. let v : length masks ≤ k = ltb-false _ _ u in
    let n : length masks + (k - length masks) ≡ k = omega arith in
    ap (λ j. mask_ok t (get_or (masks ++ masks') j 0)) (sym n) ∙ ap (mask_ok t) (get_or-append-add masks masks' (k - length masks) 0)
    ∙ every-at (λ k. mask_ok t (get_or masks' k 0)) (length masks') (k - length masks) b (omega (arith, length-append masks masks'))))

-- Where neither block is refused, the one is not.
pub both_pass : (t : Table) (mode : Mode) → Sized t → (masks masks' bs bs' : List ℕ) (s : State) (part : List ℕ)
    → refusal t mode masks bs s (length part) ≡ 0
    → refusal t mode masks' bs' (block t mode masks bs s part).state (length (drop (length masks) part)) ≡ 0
    → refusal t mode (masks ++ masks') (bs ++ bs') s (length part) ≡ 0
unfolding refusal refusal_then pick made
both_pass t mode z masks masks' bs bs' s part p q =
    let y : State = (block t mode masks bs s part).state in
    let j = judged t mode masks bs s (length part) p in
    let k = judged t mode masks' bs' y (length (drop (length masks) part)) q in
    let a : Passes t masks bs s (length part) = passes t masks bs s (length part) j.2 in
    let b : Passes t masks' bs' y (length (drop (length masks) part)) = passes t masks' bs' y (length (drop (length masks) part)) k.2 in
    let c : y.clock ≡ s.clock + length masks
    = clock_at t (step t mode) (step_clock t mode) masks bs 0 (length masks) s y (ap (λ (x : Blocked). x.state) (sym (block_made t mode masks bs s part p))) in
    let n : length (masks ++ masks') ≡ length masks + length masks' = length-append masks masks' in
    let l : length (bs ++ bs') ≡ length (masks ++ masks') * t.count
    = length-append bs bs' ∙ ap₂ ◌+◌ a.long b.long ∙ sym (add-mul (length masks) (length masks') t.count) ∙ ap (λ i. i * t.count) (sym n) in
    let w : whole t (masks ++ masks') (bs ++ bs') ≡ true = whole_by t (masks ++ masks') (bs ++ bs') (legal_sound t z j.0).count_low l in
    let m : masks_ok t (masks ++ masks') ≡ true
    = masks_both t masks masks' (masked t masks bs s (length part) j.2) (masked t masks' bs' y (length (drop (length masks) part)) k.2) in
    let u : leb (s.clock + length (masks ++ masks')) last_clock ≡ true = le-leb (s.clock + length (masks ++ masks')) last_clock (omega (arith, n, c, b.early)) in
    let v : leb (length (masks ++ masks')) (length part) ≡ true = le-leb (length (masks ++ masks')) (length part) (omega (arith, n, a.roomy, b.roomy, length-drop (length masks) part)) in
    rw (j.0, j.1, a.fitting, w, m, u, v)

-- The first block's bytes, and behind them what the second gives of the part that it is lent.
pub two_blocks : (t : Table) (mode : Mode) → Sized t → (masks masks' bs bs' : List ℕ) (s : State) (part : List ℕ)
    → refusal t mode masks bs s (length part) ≡ 0
    → refusal t mode masks' bs' (block t mode masks bs s part).state (length (drop (length masks) part)) ≡ 0
    → let one = block t mode masks bs s part in
    let two = block t mode masks' bs' one.state (drop (length masks) part) in
    block t mode (masks ++ masks') (bs ++ bs') s part ≡ record { number = 0; values = []; state = two.state; part = take (length masks) one.part ++ two.part; next = length masks + two.next }
two_blocks t mode z masks masks' bs bs' s part p q = two-joined t mode masks masks' bs bs' s part p q (both_pass t mode z masks masks' bs bs' s part p q)
