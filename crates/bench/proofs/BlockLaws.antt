-- Whole steps up to the last clock are one block, whose trace gives their lines; and what is behind them is refused or none.
use Prim.Native.Nat.{ℕ, zero, suc, ◌+◌, ◌-◌, ◌*◌, ◌/◌, ◌%◌, ◌^◌, ◌≤◌, ◌<◌}
use mathlib.Core.Path.{◌≡◌, refl, ap, sym, ◌∙◌, subst}
use mathlib.Core.List.{List, [], ◌∷◌, ◌++◌, append-nil}
use mathlib.Core.Bool.{true}
use native.Mathlib.Omega.{arith}
use native.Mathlib.Nat.{zero-add, add-suc, add-zero, suc-mul, mul-mod_left, mul-div_cancel, div-add-mod', mod-lt, zero-div, mul-le-mul_right, le_of_mul-le-mul_right}
use lib.ListN.{length, get_or, take, drop, replicate, length-drop, take-append-drop}
use lib.Seq.{length-take-le, take-append_seam, take_all}
use lib.Dec.{eqb, ltb}
use borrow.Author.Tests.{eq-eqb, ne_eqb, lt-ltb, le-ltb, le-leb, eqb-true, eqb-false, ltb-true, ltb-false}
use Rattle.basis.specs.Search.{listed}
use Rattle.basis.specs.Turns.{in_turn, after}
use Rattle.basis.specs.Tests.{pick}
use Rattle.basis.specs.Ceil.{ceil}
use Rattle.basis.proofs.CeilLaws.{ceil_covers}
use Rattle.basis.proofs.TestLaws.{by_test, and-of, every-all}
use Rattle.table.specs.Legal.{Legal}
use Rattle.table.proofs.LegalLaws.{legal_complete}
use Rattle.table.specs.declared.Table.{Table}
use Rattle.state.specs.State.{last_clock, Fits, progress}
use Rattle.state.specs.Release.{has_event, release}
use Rattle.state.specs.declared.State.{State}
use Rattle.state.proofs.FitLaws.{fits_complete, release-fits}
use Rattle.frame.specs.Mode.{unframed, mode_ok}
use Rattle.walk.specs.Step.{Input, quiet, step, Rested, Names, ran, idles}
use Rattle.walk.specs.declared.Answer.{Answer}
use Rattle.walk.specs.declared.Answer.TheVariants.{Ran, IdleFor, Idle}
use Rattle.walk.specs.declared.Walked.{Walked}
use Rattle.walk.proofs.StepLaws.{step_clock, step_fits, chosen_rested}
use Rattle.scheduler.specs.Taken.{refused_step, mask_ok, taken, taken_then}
use Rattle.scheduler.proofs.RefusalLaws.{taken-steps}
use Rattle.block.specs.Block.{trace, input_at, inputs, end_of, trace_of, whole, masks_ok, refusal_then, refusal, Blocked, made, block, blocked_of}
use Rattle.block.specs.declared.Ended.{Ended}
use Rattle.block.proofs.StretchLaws.{end_next, trace-next, trace-length, inputs-length, clock_at, fits-at, part-inside}
use Rattle.block.proofs.RunLaws.{block_made}
use Rattle.report.specs.Lines.{step_line, answer, trace_lines}
use Rattle.report.proofs.LineLaws.{trace_lines-last}
use Rattle.bench.specs.Text.{Run, with_step, play, bytes_of, played, played_all, from}
use Rattle.bench.specs.Playing.{refusal_behind}
use Rattle.bench.proofs.PlayLaws.{played-none, played-suc}
use Rattle.bench.proofs.ChunkLaws.{front-played, ceil-whole, ceil-none}

-- A mask without events passes with every table.
mask_empty : (t : Table) (mask : ℕ) → mask ≡ 0 → mask_ok t mask ≡ true
unfolding mask_ok has_event
mask_empty t mask e = rw e (every-all _ 32 (λ i l. rw (zero-div (2 ^ i))))

-- What an answer's byte tells is the answer, where it names a thread of the table.
answer_back : (a : Answer) → ((i : ℕ) → Names i a → i < 32) → answer (trace a) ≡ a
unfolding answer pick
answer_back (Ran i) h = rw (lt-ltb i 32 (h i ran))
answer_back (IdleFor i) h =
    let l : i < 32 = h i idles in
    let e : 32 + i - 32 ≡ i = omega arith in
    rw (le-ltb (32 + i) 32 (omega arith), ne_eqb (32 + i) 255 (λ q. omega arith), e)
answer_back Idle h = refl

named_rested : (a : Answer) (s : State) → Rested a s → (i : ℕ) → Names i a → 0 < (progress s i).rest
named_rested a s r i ran = r.ran i refl
named_rested a s r i idles = r.idled i refl

step_named : (t : Table) (x : Input) (s : State) → t.count ≤ 32 → Fits t s → (i : ℕ) → Names i (step t unframed x s).answer → i < 32
step_named t x s few f i n =
    by_test (ltb i t.count) (λ e. let l = ltb-true i t.count e in omega arith)
    (λ e. let r : 0 < (progress (release t x.mask s) i).rest = named_rested _ _ (chosen_rested t unframed x s) i n in
    let z = ((release-fits t x.mask s f).at i).unused (ltb-false i t.count e) in
    absurd (omega (arith, rw z at r)))

abbrev stopped : List ℕ → State → ℕ → Run
stopped lines z why = record { lines = lines; state = z; why = why }

module _ (t : Table) (b lines : List ℕ) (z : State) where
  -- a step that is taken
  play-steps : Legal t → Fits t z → length b ≡ t.count → z.clock < last_clock
      → play t b (stopped lines z 0) ≡ stopped (lines ++ step_line z.clock (step t unframed (quiet b) z).answer) (step t unframed (quiet b) z).state 0
  unfolding play with_step pick mode_ok
  play-steps l f e h = rw (taken-steps t unframed (quiet b) z (legal_complete t l) refl (fits_complete t z f) e (mask_empty t 0 refl) h)

  -- one that is refused
  play-refused : (why : ℕ) → taken t unframed (quiet b) z ≡ refused_step why z → (why ≡ 0 → ⊥) → play t b (stopped lines z 0) ≡ stopped lines z why
  unfolding play with_step pick
  play-refused why e h = rw (e, ne_eqb why 0 h, append-nil lines)

  taken-short : Legal t → Fits t z → (length b ≡ t.count → ⊥) → taken t unframed (quiet b) z ≡ refused_step 13 z
  unfolding taken taken_then pick mode_ok
  taken-short l f e = rw (legal_complete t l, fits_complete t z f, ne_eqb _ _ e)

  taken-last : Legal t → Fits t z → length b ≡ t.count → z.clock ≡ last_clock → taken t unframed (quiet b) z ≡ refused_step 14 z
  unfolding taken taken_then pick mode_ok
  taken-last l f e h =
      rw (legal_complete t l, fits_complete t z f, eq-eqb _ _ e, mask_empty t 0 refl, le-ltb z.clock last_clock (omega arith))

  -- and one behind a refusal
  play_over : (why : ℕ) → (why ≡ 0 → ⊥) → play t b (stopped lines z why) ≡ stopped lines z why
  unfolding play pick
  play_over why h = rw (ne_eqb why 0 h)

-- A run stops where a step is refused, and stays.
module _ (t : Table) (bs lines : List ℕ) (r : Run) (z : State) (n why : ℕ) (some : why ≡ 0 → ⊥) (e : played t bs r n ≡ stopped lines z 0)
    (refuses : taken t unframed (quiet (bytes_of t.count n bs)) z ≡ refused_step why z) where
  stays : (j : ℕ) → played t bs r (suc n + j) ≡ stopped lines z why
  stays zero =
      ap (played t bs r) (add-zero (suc n)) ∙ played-suc t bs r n ∙ ap (play t (bytes_of t.count n bs)) e
      ∙ play-refused t (bytes_of t.count n bs) lines z why refuses some
  stays (suc j) =
      ap (played t bs r) (add-suc (suc n) j) ∙ played-suc t bs r (suc n + j) ∙ ap (play t (bytes_of t.count (suc n + j) bs)) (stays j)
      ∙ play_over t (bytes_of t.count (suc n + j) bs) lines z why some

  stops : (k : ℕ) → n < k → played t bs r k ≡ stopped lines z why
  stops k h = let q : k ≡ suc n + (k - suc n) = omega arith in ap (played t bs r) q ∙ stays (k - suc n)

-- Steps with empty masks, from a fitting state.
module _ (t : Table) (l : Legal t) (s : State) (f : Fits t s) (masks bs : List ℕ) (none : (k : ℕ) → get_or masks k 0 ≡ 0) where
  abbrev made_by : Input → State → Walked
  made_by = step t unframed

  abbrev ended : ℕ → State
  ended n = end_of made_by (inputs t masks bs 0 n) s

  abbrev traced : ℕ → List ℕ
  traced n = trace_of made_by (inputs t masks bs 0 n) s

  inputs-suc : (n : ℕ) → inputs t masks bs 0 (suc n) ≡ inputs t masks bs 0 n ++ (quiet (bytes_of t.count n bs) ∷ [])
  unfolding inputs listed input_at
  inputs-suc n = rw (zero-add n, none n)

  ended_clock : (n : ℕ) → (ended n).clock ≡ s.clock + n
  ended_clock n = clock_at t made_by (step_clock t unframed) masks bs 0 n s (ended n) refl

  ended-fits : (n : ℕ) → s.clock + n ≤ last_clock → Fits t (ended n)
  ended-fits n h = fits-at t made_by (step_clock t unframed) (step_fits t unframed) masks bs 0 n s (ended n) refl f h

  -- the lines of whole steps are those of the trace
  played-made : (n : ℕ) → n * t.count ≤ length bs → s.clock + n ≤ last_clock
      → played t bs (from s) n ≡ stopped (trace_lines s.clock (traced n)) (ended n) 0
  unfolding inputs listed end_of after trace_of in_turn trace_lines
  played-made zero h k = played-none t bs (from s)
  played-made (suc n) h k =
      let m = suc-mul n t.count in
      let b : List ℕ = bytes_of t.count n bs in
      let z : State = ended n in
      let w : Walked = made_by (quiet b) z in
      let fit : Fits t z = ended-fits n (omega arith) in
      let long : length b ≡ t.count = length-take-le t.count (drop (n * t.count) bs) (omega (arith, length-drop (n * t.count) bs)) in
      let back : answer (trace w.answer) ≡ w.answer = answer_back w.answer (step_named t (quiet b) z l.count_high fit) in
      let c : s.clock + length (traced n) ≡ z.clock
      = omega (arith, trace-length made_by s (inputs t masks bs 0 n), inputs-length t masks bs 0 n, ended_clock n) in
      let one : traced (suc n) ≡ traced n ++ (trace w.answer ∷ [])
      = ap (λ (xs : List Input). trace_of made_by xs s) (inputs-suc n) ∙ trace-next made_by s (inputs t masks bs 0 n) (quiet b) in
      let p : trace_lines s.clock (traced (suc n)) ≡ trace_lines s.clock (traced n) ++ step_line z.clock w.answer
      = ap (trace_lines s.clock) one ∙ trace_lines-last s.clock (traced n) (trace w.answer)
      ∙ ap (λ (k : ℕ). trace_lines s.clock (traced n) ++ step_line k (answer (trace w.answer))) c
      ∙ ap (λ (a : Answer). trace_lines s.clock (traced n) ++ step_line z.clock a) back in
      let q : ended (suc n) ≡ w.state
      = ap (λ (xs : List Input). end_of made_by xs s) (inputs-suc n) ∙ end_next made_by s (inputs t masks bs 0 n) (quiet b) in
      played-suc t bs (from s) n ∙ ap (play t b) (played-made n (omega arith) (omega arith))
      ∙ play-steps t b (trace_lines s.clock (traced n)) z l fit long (omega (arith, ended_clock n))
      ∙ (λ i. stopped (sym p i) (sym q i) 0)

  -- a block of them is not refused
  block-passes : (room : ℕ) → length bs ≡ length masks * t.count → s.clock + length masks ≤ last_clock → length masks ≤ room
      → refusal t unframed masks bs s room ≡ 0
  unfolding refusal refusal_then whole masks_ok mode_ok pick
  block-passes room e h r =
      let w : whole t masks bs ≡ true
      = and-of (eq-eqb _ _ (ap (λ n. n % t.count) e ∙ mul-mod_left (length masks) t.count))
      (eq-eqb _ _ (sym (ap (λ n. n / t.count) e ∙ mul-div_cancel (length masks) l.count_low))) in
      let m : masks_ok t masks ≡ true = every-all (λ k. mask_ok t (get_or masks k 0)) (length masks) (λ k u. mask_empty t (get_or masks k 0) (none k)) in
      rw (legal_complete t l, fits_complete t s f, w, m, le-leb _ _ h, le-leb _ _ r)

  -- and gives their trace and the state behind them
  block-gives : (part part' : List ℕ) (r : Ended) → length bs ≡ length masks * t.count → s.clock + length masks ≤ last_clock → length masks ≤ length part
      → blocked_of r part' ≡ block t unframed masks bs s part → (r.state ≡ ended (length masks)) × (take (length masks) part' ≡ traced (length masks))
  unfolding made
  block-gives part part' r e h k q =
      let n = length masks in
      let d : blocked_of r part' ≡ made made_by (inputs t masks bs 0 n) s part
      = q ∙ sym (block_made t unframed masks bs s part (block-passes (length part) e h k)) in
      let p : part' ≡ traced n ++ drop (length (inputs t masks bs 0 n)) part = ap (λ (x : Blocked). x.part) d in
      let g : length (traced n) ≡ n = trace-length made_by s (inputs t masks bs 0 n) ∙ inputs-length t masks bs 0 n in (
        ap (λ (x : Blocked). x.state) d,
        ap (take n) p ∙ ap (λ (j : ℕ). take j (traced n ++ drop (length (inputs t masks bs 0 n)) part)) (sym g) ∙ take-append_seam (traced n) _,
      )

-- All steps of a chunk: the n that a block has made, and what stands behind them.
module _ (t : Table) (l : Legal t) (s : State) (f : Fits t s) (bs masks part part' : List ℕ) (none : (k : ℕ) → get_or masks k 0 ≡ 0) (r : Ended)
    (n : ℕ) (each : length masks ≡ n) (inside : n ≤ length bs / t.count) (early : s.clock + n ≤ last_clock)
    (cut : n < length bs / t.count → s.clock + n ≡ last_clock) (room : n ≤ length part)
    (gave : blocked_of r part' ≡ block t unframed masks (take (n * t.count) bs) s part) where
  abbrev made_lines : List ℕ
  made_lines = trace_lines s.clock (take n part')

  all-bytes : length bs / t.count * t.count + length bs % t.count ≡ length bs
  all-bytes = div-add-mod' (length bs) t.count

  before_end : n * t.count ≤ length bs
  before_end = omega (arith, all-bytes, mul-le-mul_right t.count inside)

  front_long : length (take (n * t.count) bs) ≡ n * t.count
  front_long = length-take-le (n * t.count) bs before_end

  gives : (r.state ≡ ended t l s f masks (take (n * t.count) bs) none n) × (take n part' ≡ traced t l s f masks (take (n * t.count) bs) none n)
  gives =
      subst (λ (k : ℕ). (r.state ≡ ended t l s f masks (take (n * t.count) bs) none k) × (take k part' ≡ traced t l s f masks (take (n * t.count) bs) none k)) each
      (block-gives t l s f masks (take (n * t.count) bs) none part part' r (rw each front_long) (rw each early) (rw each room) gave)

  pub state-fits : Fits t r.state
  state-fits = subst (Fits t) (sym gives.0) (ended-fits t l s f masks (take (n * t.count) bs) none n early)

  state_clock : r.state.clock ≡ s.clock + n
  state_clock = ap (λ (z : State). z.clock) gives.0 ∙ ended_clock t l s f masks (take (n * t.count) bs) none n

  played-block : played t bs (from s) n ≡ stopped made_lines r.state 0
  played-block =
      ap (λ (b : List ℕ). played t b (from s) n) (sym (take-append-drop (n * t.count) bs))
      ∙ front-played t (take (n * t.count) bs) (drop (n * t.count) bs) (from s) n (omega (arith, front_long))
      ∙ played-made t l s f masks (take (n * t.count) bs) none n (omega (arith, front_long)) early
      ∙ (λ i. stopped (trace_lines s.clock (sym gives.1 i)) (sym gives.0 i) 0)

  -- as many steps as there are whole ones, and one for a rest
  steps_in : ceil (length bs) t.count ≡ length bs / t.count + ceil (length bs % t.count) t.count
  steps_in =
      ap (λ (k : ℕ). ceil k t.count) (sym all-bytes) ∙ ceil-whole (length bs / t.count) t.count (length bs % t.count) l.count_low

  -- the step at the last clock is whole
  at_last : n < length bs / t.count → played_all t bs (from s) ≡ stopped made_lines r.state 14
  at_last h =
      let w : length (bytes_of t.count n bs) ≡ t.count
      = length-take-le t.count (drop (n * t.count) bs)
      (omega (arith, length-drop (n * t.count) bs, part-inside n (length bs / t.count) t.count h, all-bytes)) in
      stops t bs made_lines (from s) r.state n 14 (λ q. omega arith) played-block
      (taken-last t (bytes_of t.count n bs) made_lines r.state l state-fits w (state_clock ∙ cut h)) _ (omega (arith, steps_in))

  -- a rest is a step short of bytes
  one-short : n ≡ length bs / t.count → (length bs % t.count ≡ 0 → ⊥) → played_all t bs (from s) ≡ stopped made_lines r.state 13
  one-short e h =
      let low : length bs % t.count < t.count = mod-lt (length bs) l.count_low in
      let d : length (drop (n * t.count) bs) ≡ length bs % t.count
      = length-drop (n * t.count) bs ∙ ap (λ (k : ℕ). length bs - k * t.count) e ∙ omega (arith, all-bytes) in
      let w : bytes_of t.count n bs ≡ drop (n * t.count) bs = take_all t.count (drop (n * t.count) bs) (omega arith) in
      let some : 0 < ceil (length bs % t.count) t.count
      = by_test (ltb 0 (ceil (length bs % t.count) t.count)) (λ q. ltb-true _ _ q)
      (λ q. let z : ceil (length bs % t.count) t.count ≡ 0 = let u = ltb-false 0 (ceil (length bs % t.count) t.count) q in omega arith in
      let v : length bs % t.count ≤ 0 * t.count = rw z at (ceil_covers (length bs % t.count) t.count l.count_low) in
      absurd (h (omega arith))) in
      stops t bs made_lines (from s) r.state n 13 (λ q. omega arith) played-block
      (taken-short t (bytes_of t.count n bs) made_lines r.state l state-fits (λ q. omega (arith, ap length w))) _ (omega (arith, steps_in))

  no_rest : n ≡ length bs / t.count → length bs % t.count ≡ 0 → played_all t bs (from s) ≡ stopped made_lines r.state 0
  no_rest e h =
      let z : ceil (length bs % t.count) t.count ≡ 0 = ap (λ (k : ℕ). ceil k t.count) h ∙ ceil-none t.count l.count_low in
      ap (played t bs (from s)) (omega (arith, steps_in)) ∙ played-block

  pub chunk_played : played_all t bs (from s) ≡ stopped made_lines r.state (refusal_behind n (length bs / t.count) (length bs % t.count))
  unfolding refusal_behind pick
  chunk_played =
      by_test (ltb n (length bs / t.count)) (λ a. rw a (at_last (ltb-true _ _ a)))
      (λ a. let e : n ≡ length bs / t.count = let u = ltb-false n (length bs / t.count) a in omega arith in
      by_test (eqb (length bs % t.count) 0) (λ b. rw (a, b) (no_rest e (eqb-true _ _ b))) (λ b. rw (a, b) (one-short e (eqb-false _ _ b))))

-- Whole steps of few bytes are within them, and few.
pub steps-inside : (n len count : ℕ) → n ≤ len / count → n * count ≤ len
steps-inside n len count h = omega (arith, div-add-mod' len count, mul-le-mul_right count h)

pub steps_few : (n len count : ℕ) → 0 < count → n ≤ len / count → len ≤ 4000 * count → n ≤ 4000
steps_few n len count some h k = le_of_mul-le-mul_right {m = n} {n = 4000} {k = count} (omega (arith, steps-inside n len count h)) some

-- So many zeros are empty masks.
pub zeros_none : (n m k : ℕ) → ◌≡◌ {A = ℕ} (get_or (take n (replicate m 0)) k 0) 0
zeros_none zero m k = refl
zeros_none (suc n) zero k = refl
zeros_none (suc n) (suc m) zero = refl
zeros_none (suc n) (suc m) (suc k) = zeros_none n m k
