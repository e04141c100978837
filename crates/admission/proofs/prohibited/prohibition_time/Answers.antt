use Rattle.admission.specs.Demand.{sum}
use Rattle.admission.specs.Prohibition.{stretch, prohibition}
use Rattle.admission.proofs.SumLaws.{sum-next}
use Rattle.admission.proofs.ThreadsLaws.{threads_long, threads_below, threads_at}
use Rattle.admission.proofs.ProhibitionLaws.{prohibition_partial, brought}
use Rattle.table.specs.Threads.{thread, none}
use Rattle.table.specs.Mark.{Mark, marked, mark}
use Rattle.basis.specs.Search.{nothing}
use Rattle.std.proofs.lemmas.Slice.Zip.{zip_turn, zip_end}
use Rattle.std.proofs.lemmas.List.{length_push}
use Rattle.std.proofs.Common.{ℕ, ◌≡◌, ◌<◌, ◌+◌, ◌∙◌, length, take, get_or, arith, refl}
use Rattle.admission.proofs.prohibited.prohibition_time.Goals as goal
use Rattle.admission.proofs.prohibited.prohibition_time.Goals.{In-Some, After-stretch-sum}

-- The thread and the mark at hand stand at the place that the loop has come to.
here : (c : In-Some) → (length c.loop-upper.yielded < length (take c.args.t.count c.args.t.threads)) × (length c.loop-upper.yielded < length c.mark_all-marks.result)
    × ((d : _) → c.in-Some.upper.now ≡ get_or (take c.args.t.count c.args.t.threads) (length c.loop-upper.yielded) d)
    × ((d : Mark) → c.in-Some.mark.now ≡ get_or c.mark_all-marks.result (length c.loop-upper.yielded) d)
here c = zip_turn (take c.args.t.count c.args.t.threads) c.mark_all-marks.result c.loop-upper.yielded c.into_iter-upper-iterator.result c.loop-upper.upper-iterator c.next.new.self c.next.result (cc) (cc) c.loop-upper.yielded_by _ c.in-Some.is c.next.ensures.steps

pub loop-upper-init : goal.loop-upper-init
unfolding sum
loop-upper-init c = ((tt, tt), tt, refl)

pub stretch-sum-requires : goal.stretch-sum-requires
stretch-sum-requires c =
    let g = c.requires.0 in
    let h = here (goal.at.stretch-sum-requires c).In-Some in
    ((g.threads _ c.requires.1).period_low, rw (h.2 none, threads_at c.args.t g _ h.0) (g.threads _ (threads_below c.args.t g _ h.0)).period_low)

-- What the thread at hand brings, by the table's own mark.
brings : (c : After-stretch-sum) → c.stretch-sum.result ≡ stretch (thread c.args.t c.args.l) (marked c.args.t (length c.loop-upper.yielded)) (thread c.args.t (length c.loop-upper.yielded))
brings c =
    let g = c.requires.0 in
    let h = here (goal.at.overflow_add-sum c).In-Some in
    brought c.args.t c.args.l (length c.loop-upper.yielded) _ c.is_some.result c.in-Some.upper.now c.in-Some.mark.now c.mark_all-marks.result (threads_below c.args.t g _ h.0)
    c.stretch-sum.ensures c.is_some.ensures (h.2 none ∙ threads_at c.args.t g _ h.0) (h.3 (mark nothing)) c.mark_all-marks.ensures

pub overflow_add-sum : goal.overflow_add-sum
overflow_add-sum c =
    let g = c.requires.0 in
    let h = here (goal.at.overflow_add-sum c).In-Some in
    let l = threads_below c.args.t g _ h.0 in
    let f : ℕ → ℕ = λ k. stretch (thread c.args.t c.args.l) (marked c.args.t k) (thread c.args.t k) in
    omega (arith, prohibition_partial c.args.t g c.args.l (length c.loop-upper.yielded + 1) c.requires.1 (omega arith), sum-next f (length c.loop-upper.yielded), c.loop-upper.invariant.2, brings c)

pub loop-upper-preserved : goal.loop-upper-preserved
loop-upper-preserved c =
    let f : ℕ → ℕ = λ k. stretch (thread c.args.t c.args.l) (marked c.args.t k) (thread c.args.t k) in
    let n = length_push c.loop-upper.yielded (c.in-Some.upper, c.in-Some.mark) in
    ((tt, tt), tt, rw n (omega (arith, sum-next f (length c.loop-upper.yielded), c.loop-upper.invariant.2, brings c)))

pub returns : goal.returns
unfolding prohibition
returns c =
    let g = c.requires.0 in
    let e : length c.loop-upper.yielded ≡ c.args.t.count = omega (
      arith,
      g.count_high,
      threads_long c.args.t g,
      c.mark_all-marks.type_inv,
      zip_end (take c.args.t.count c.args.t.threads) c.mark_all-marks.result c.loop-upper.yielded c.into_iter-upper-iterator.result c.loop-upper.upper-iterator c.next.new.self c.next.result (cc) (cc) c.loop-upper.yielded_by c.in-None.is c.next.ensures.steps,
    ) in
    rw e at c.loop-upper.invariant.2
