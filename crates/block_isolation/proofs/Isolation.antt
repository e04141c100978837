-- Demand 3 over blocks: a block that is not refused is steps in turn, which keep two states alike for d and write bytes that show d the same;
-- and no refusal looks at a byte's value.
use Prim.Native.Nat.{ℕ, zero, suc, ◌+◌, ◌*◌, ◌<◌}
use mathlib.Core.Path.{◌≡◌, refl, sym, ◌∙◌, ap, ap₂, subst}
use mathlib.Core.List.{List, [], ◌∷◌, ◌++◌, map}
use mathlib.Core.Bool.{true}
use lib.ListN.{length, get_or, take, drop, length-take, length-drop}
use lib.Seq.{get_or-take, get_or-drop}
use lib.Dec.{eqb, leb}
use borrow.Author.Tests.{eqb-true}
use Rattle.basis.specs.Tests.{pick}
use Rattle.basis.specs.Search.{listed}
use Rattle.basis.specs.Turns.{in_turn, after}
use Rattle.basis.proofs.TestLaws.{both}
use Rattle.table.specs.Legal.{legal, Legal, Sized}
use Rattle.table.specs.declared.Table.{Table}
use Rattle.table.proofs.LegalLaws.{legal_sound}
use Rattle.state.specs.State.{fresh, last_clock, Fits}
use Rattle.state.specs.declared.State.{State}
use Rattle.state.proofs.FitLaws.{fresh-fits, fits_complete}
use Rattle.frame.specs.Mode.{Mode, mode_ok}
use Rattle.walk.specs.Step.{Input, step}
use Rattle.walk.proofs.StepLaws.{step_clock, step_fits}
use Rattle.sight.specs.Shown.{visible}
use Rattle.sight.proofs.SightLaws.{visible_exactly, seen_same}
use Rattle.isolation.specs.Isolated.{SameStep, SameSteps, ended, next}
use Rattle.isolation.proofs.Alike.{Alike, alike_refl}
use Rattle.isolation.proofs.Isolation.{step_alike, state-shown}
use Rattle.block.specs.Block.{trace, input_at, inputs, end_of, trace_of, whole, masks_ok, refusal_then, refusal, Blocked, refused_block, made, block, or_no_room, stop, recorded}
use Rattle.block.proofs.StretchLaws.{inputs-length, fits-at}
use Rattle.block.proofs.RunLaws.{passes}
use Rattle.block.proofs.CallLaws.{judged, block_same_refusal}
use Rattle.block_isolation.specs.Shown.{byte_shown, record_shown, block_shown}
use Rattle.block_isolation.specs.Isolated.{Call, call, blocks, SameCall, SameCalls, ended as no-calls, next as next-call, IsolatedBlocks}
use Rattle.block_isolation.proofs.ByteLaws.{byte-answer, shown-append, shown-take, shown-drop, shown_long}

module _ (t : Table) (mode : Mode) (ok : legal t ≡ true) (l : Legal t) (d : ℕ) (dd : d < t.domains) where
  -- Steps in turn.
  record SameRun (xs ys : List Input) (s r : State) : Type 0 where
    alike : Alike t d (end_of (step t mode) xs s) (end_of (step t mode) ys r)
    bytes : record_shown t d (trace_of (step t mode) xs s) ≡ record_shown t d (trace_of (step t mode) ys r)

  steps_alike : (xs ys : List Input) → SameSteps t d xs ys → (s r : State) → Alike t d s r → SameRun xs ys s r
  unfolding end_of trace_of after in_turn record_shown
  steps_alike xs ys ended s r a = record { alike = a; bytes = refl }
  steps_alike xs ys (next {x} {y} {us} {vs} h more) s r a =
      let o = step_alike t l d dd mode x y h s r a in
      let w : SameRun us vs (step t mode x s).state (step t mode y r).state = steps_alike us vs more _ _ o.alike in
      let b : byte_shown t d (trace (step t mode x s).answer) ≡ byte_shown t d (trace (step t mode y r).answer)
      = byte-answer t d l.count_high (step t mode x s).answer ∙ o.same ∙ sym (byte-answer t d l.count_high (step t mode y r).answer) in
      record { alike = w.alike; bytes = ap₂ ◌∷◌ b w.bytes }

  -- The steps of two blocks, one by one.
  one_more : (xs ys : List Input) → SameSteps t d xs ys → (x y : Input) → SameStep t d x y → SameSteps t d (xs ++ (x ∷ [])) (ys ++ (y ∷ []))
  one_more xs ys ended x y h = next h ended
  one_more xs ys (next {us} {vs} g more) x y h = next g (one_more _ _ more x y h)

  -- Two calls show d the same, and hand back states that are alike for d and fit.
  record SameBlock (v w : Blocked) : Type 0 where
    number : v.number ≡ w.number
    bytes : record_shown t d v.part ≡ record_shown t d w.part
    next : v.next ≡ w.next
    alike : Alike t d v.state w.state
    first_fits : Fits t v.state
    second_fits : Fits t w.state

  module _ (masks bs cs : List ℕ) (long : length bs ≡ length cs)
      (same : (k i : ℕ) → visible t d i ≡ true → get_or bs (k * t.count + i) 0 ≡ get_or cs (k * t.count + i) 0) where
    byte_at : (bs : List ℕ) (k i : ℕ) → visible t d i ≡ true → get_or (take t.count (drop (k * t.count) bs)) i 0 ≡ get_or bs (k * t.count + i) 0
    byte_at bs k i v =
        get_or-take t.count (drop (k * t.count) bs) i 0 ((visible_exactly t d i).0 v).0 ∙ get_or-drop (k * t.count) bs i 0

    as_long : (n m : ℕ) (bs cs : List ℕ) → length bs ≡ length cs → length (take n (drop m bs)) ≡ length (take n (drop m cs))
    as_long n m bs cs e = rw (length-take n (drop m bs), length-take n (drop m cs), length-drop m bs, length-drop m cs, e)

    same_input : (k : ℕ) → SameStep t d (input_at t masks bs k) (input_at t masks cs k)
    unfolding input_at
    same_input k = record {
      masks = refl;
      long = as_long t.count (k * t.count) bs cs long;
      same = λ i v. byte_at bs k i v ∙ same k i v ∙ sym (byte_at cs k i v);
    }

    same_inputs : (n : ℕ) → SameSteps t d (inputs t masks bs 0 n) (inputs t masks cs 0 n)
    unfolding inputs listed
    same_inputs zero = ended
    same_inputs (suc n) = one_more _ _ (same_inputs n) _ _ (same_input (0 + n))

    -- What the refusals look at is the same.
    module _ (s r : State) (f : Fits t s) (g : Fits t r) (a : Alike t d s r) where
      abbrev by_clock : ℕ → ℕ → ℕ
      by_clock room c =
          pick (legal t)
          (pick (mode_ok t mode)
          (pick (whole t masks cs) (pick (masks_ok t masks) (pick (leb (c + length masks) last_clock) (pick (leb (length masks) room) 0 16) 14) 18) 13)
          19)
          11

      fitting : (room : ℕ) (s : State) → Fits t s → refusal t mode masks cs s room ≡ by_clock room s.clock
      unfolding refusal refusal_then pick
      fitting room s f = rw (fits_complete t s f)

      same-refusal : (room : ℕ) → refusal t mode masks bs s room ≡ refusal t mode masks cs r room
      same-refusal room =
          block_same_refusal t mode masks bs s cs room long ∙ fitting room s f ∙ ap (by_clock room) a.clocks ∙ sym (fitting room r g)

      refused_alike : (n m : ℕ) (o p : List ℕ) → n ≡ m → record_shown t d o ≡ record_shown t d p → SameBlock (refused_block n s o) (refused_block m r p)
      refused_alike n m o p e q = record { number = e; bytes = q; next = refl; alike = a; first_fits = f; second_fits = g }

      end_fits : (bs : List ℕ) (s : State) (room : ℕ) → Fits t s → refusal t mode masks bs s room ≡ 0
          → Fits t (end_of (step t mode) (inputs t masks bs 0 (length masks)) s)
      end_fits bs s room f e =
          fits-at t (step t mode) (step_clock t mode) (step_fits t mode) masks bs 0 (length masks) s _ refl f
          (passes t masks bs s room (judged t mode masks bs s room e).2).early

      block_alike : (o p : List ℕ) → record_shown t d o ≡ record_shown t d p → SameBlock (block t mode masks bs s o) (block t mode masks cs r p)
      unfolding block made
      block_alike o p q =
          let n : refusal t mode masks bs s (length o) ≡ refusal t mode masks cs r (length p)
          = same-refusal (length o) ∙ ap (refusal t mode masks cs r) (shown_long t d o p q) in
          let xs = inputs t masks bs 0 (length masks) in
          let ys = inputs t masks cs 0 (length masks) in
          both SameBlock (eqb (refusal t mode masks bs s (length o)) 0) _ (ap (λ (k : ℕ). eqb k 0) n)
          (λ e. let w = steps_alike xs ys (same_inputs (length masks)) s r a in
          let z : refusal t mode masks bs s (length o) ≡ 0 = eqb-true _ _ e in
          let k : length xs ≡ length ys = inputs-length t masks bs 0 (length masks) ∙ sym (inputs-length t masks cs 0 (length masks)) in
          record {
            number = refl;
            bytes = shown-append t d (trace_of (step t mode) xs s) (drop (length xs) o)
                ∙ ap₂ ◌++◌ w.bytes (shown-drop t d (length xs) o ∙ ap₂ drop k q ∙ sym (shown-drop t d (length ys) p))
                ∙ sym (shown-append t d (trace_of (step t mode) ys r) (drop (length ys) p));
            next = k;
            alike = w.alike;
            first_fits = end_fits bs s (length o) f z;
            second_fits = end_fits cs r (length p) g (sym n ∙ z);
          })
          (λ _. refused_alike _ _ o p n q)

      -- The same of a call that names a record and a place in it.
      record_alike : (o p : List ℕ) (at : ℕ) → record_shown t d o ≡ record_shown t d p
          → SameBlock (recorded t mode masks bs s o at) (recorded t mode masks cs r p at)
      unfolding recorded
      record_alike o p at q =
          both SameBlock (leb at (length o)) _ (ap (leb at) (shown_long t d o p q))
          (λ _. let w = block_alike (drop at o) (drop at p) (shown-drop t d at o ∙ ap (drop at) q ∙ sym (shown-drop t d at p)) in
          record {
            number = w.number;
            bytes = shown-append t d (take at o) _
                ∙ ap₂ ◌++◌ (shown-take t d at o ∙ ap (take at) q ∙ sym (shown-take t d at p)) w.bytes
                ∙ sym (shown-append t d (take at p) _);
            next = ap₂ (λ (n k : ℕ). stop n at k) w.number w.next;
            alike = w.alike;
            first_fits = w.first_fits;
            second_fits = w.second_fits;
          })
          (λ _. refused_alike _ _ o p (ap or_no_room (same-refusal 0)) q)

  same-shown : (v w : Blocked) → SameBlock v w → block_shown t d v ≡ block_shown t d w
  unfolding block_shown
  same-shown v w c =
      let p = state-shown t mode ok d dd v.state c.first_fits in
      let q = state-shown t mode ok d dd w.state c.second_fits in
      rw (c.number, c.bytes, c.next, p.0, p.1, q.0, q.1, seen_same t d v.state w.state (λ i e. (c.alike.common i).seen e))

  call_alike : (x y : Call) → SameCall t d x y → (s r : State) → Fits t s → Fits t r → Alike t d s r → SameBlock (call t mode x s) (call t mode y r)
  call_alike x y h s r f g a =
      subst (λ (k : ℕ). SameBlock (call t mode x s) (recorded t mode y.masks y.bytes r y.out k)) h.places
      (subst (λ (m : List ℕ). SameBlock (call t mode x s) (recorded t mode m y.bytes r y.out x.at)) h.masks
      (record_alike x.masks x.bytes y.bytes h.long h.same s r f g a x.out y.out x.at h.records))

  blocks_alike : (us vs : List Call) → SameCalls t d us vs → (s r : State) → Fits t s → Fits t r → Alike t d s r
      → map (block_shown t d) (blocks t mode us s) ≡ map (block_shown t d) (blocks t mode vs r)
  unfolding blocks in_turn
  blocks_alike us vs no-calls s r f g a = refl
  blocks_alike us vs (next-call {x} {y} {us = xs} {vs = ys} h more) s r f g a =
      let c = call_alike x y h s r f g a in
      ap₂ ◌∷◌ (same-shown _ _ c) (blocks_alike xs ys more _ _ c.first_fits c.second_fits c.alike)

pub demand_3_blocks : (t : Table) (mode : Mode) → legal t ≡ true → Sized t → IsolatedBlocks t mode
demand_3_blocks t mode ok z d dd a b e =
    let l : Legal t = legal_sound t z ok in
    let f : Fits t (fresh t) = fresh-fits t l.count_high in
    blocks_alike t mode ok l d dd a b e (fresh t) (fresh t) f f (alike_refl t d (fresh t))
