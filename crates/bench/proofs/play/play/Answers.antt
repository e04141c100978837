-- The block is not refused, its trace gives the lines of its steps, and behind them stands what `refusal_behind` says.
use Prim.Native.Nat.{ℕ, ◌+◌, ◌/◌, ◌%◌, ◌≤◌, ◌<◌}
use mathlib.Core.Path.{◌≡◌, ap, sym, ◌∙◌, subst}
use mathlib.Core.List.{List}
use native.Mathlib.Omega.{arith}
use lib.ListN.{length, take, replicate, length-replicate}
use lib.Seq.{length-take-le}
use Rattle.state.specs.State.{last_clock, Fits}
use Rattle.writer.specs.Buffer.{Put}
use Rattle.writer.proofs.WriterLaws.{put-length}
use Rattle.report.specs.Lines.{trace_lines}
use Rattle.bench.specs.Text.{Run, played_all, from}
use Rattle.bench.specs.Playing.{Roomy, refusal_behind}
use Rattle.table.specs.Legal.{Legal}
use Rattle.table.specs.declared.Table.{Table}
use Rattle.bench.proofs.BlockLaws.{state-fits, chunk_played, steps-inside, steps_few, zeros_none}
use Rattle.bench.proofs.play.play.Goals as goal
use Rattle.bench.proofs.play.play.Goals.{After-run-r}

few : {t : Table} {bs out : List ℕ} {n : ℕ} → Legal t → Roomy t bs out → n ≤ length bs / t.count → n ≤ 4000
few {t} {bs} {out} {n} l r h = steps_few n (length bs) t.count l.count_low h r.few

masked : (n : ℕ) → n ≤ 4000 → length (take n (replicate {A = ℕ} 4000 0)) ≡ n
masked n h = length-take-le n (replicate 4000 0) (rw (length-replicate {A = ℕ} 4000 0) h)

-- The steps of the block are whole ones, up to the last clock.
low : (c : After-run-r) → c.min-n.result ≤ length c.args.bytes.now / c.args.t.count
low c = omega arith

early : (c : After-run-r) → c.args.s.clock + c.min-n.result ≤ last_clock
early c = omega arith

all_up : (c : After-run-r) → c.min-n.result < length c.args.bytes.now / c.args.t.count → c.args.s.clock + c.min-n.result ≡ last_clock
all_up c h = omega arith

room : (c : After-run-r) → length c.run-r.new.part ≡ 4000
room c = c.run-r.auto.part ∙ length-replicate {A = ℕ} 4000 0

traced : (c : After-run-r) → length (take c.min-n.result c.run-r.new.part) ≡ c.min-n.result
traced c = length-take-le _ _ (omega (arith, few c.requires.0 c.requires.2 (low c), room c))

fitting : (c : After-run-r) → Fits c.args.t c.run-r.result.state
fitting c =
    state-fits c.args.t c.requires.0 c.args.s c.requires.1 c.args.bytes.now (take c.min-n.result (replicate 4000 0)) (replicate 4000 0)
    c.run-r.new.part (zeros_none c.min-n.result 4000) c.run-r.result c.min-n.result (masked c.min-n.result (few c.requires.0 c.requires.2 (low c)))
    (low c) (early c) (all_up c) (rw (length-replicate {A = ℕ} 4000 0) (few c.requires.0 c.requires.2 (low c))) c.run-r.ensures

played-as : (c : After-run-r) → let len = length c.args.bytes.now in
    played_all c.args.t c.args.bytes.now (from c.args.s)
    ≡ record { lines = trace_lines c.args.s.clock (take c.min-n.result c.run-r.new.part); state = c.run-r.result.state; why = refusal_behind c.min-n.result (len / c.args.t.count) (len % c.args.t.count) }
played-as c =
    chunk_played c.args.t c.requires.0 c.args.s c.requires.1 c.args.bytes.now (take c.min-n.result (replicate 4000 0)) (replicate 4000 0)
    c.run-r.new.part (zeros_none c.min-n.result 4000) c.run-r.result c.min-n.result (masked c.min-n.result (few c.requires.0 c.requires.2 (low c)))
    (low c) (early c) (all_up c) (rw (length-replicate {A = ℕ} 4000 0) (few c.requires.0 c.requires.2 (low c))) c.run-r.ensures

pub overflow_mul-end : goal.overflow_mul-end
overflow_mul-end c =
    let low : c.min-n.result ≤ length c.args.bytes.now / c.args.t.count = omega arith in
    omega (arith, steps-inside c.min-n.result (length c.args.bytes.now) c.args.t.count low, c.requires.2.few, c.requires.0.count_high)

pub slice_bounds-masks-end : goal.slice_bounds-masks-end
slice_bounds-masks-end c =
    let low : c.min-n.result ≤ length c.args.bytes.now / c.args.t.count = omega arith in
    few c.requires.0 c.requires.2 low

pub slice_bounds-run-end : goal.slice_bounds-run-end
slice_bounds-run-end c =
    let low : c.min-n.result ≤ length c.args.bytes.now / c.args.t.count = omega arith in
    sym (masked _ (few c.requires.0 c.requires.2 low))

pub slice_bounds-run-end-2 : goal.slice_bounds-run-end-2
slice_bounds-run-end-2 c =
    let low : c.min-n.result ≤ length c.args.bytes.now / c.args.t.count = omega arith in
    sym (length-take-le _ _ (steps-inside c.min-n.result (length c.args.bytes.now) c.args.t.count low))

pub slice_bounds-trace-end : goal.slice_bounds-trace-end
slice_bounds-trace-end c = omega (arith, few c.requires.0 c.requires.2 (low (goal.at.slice_bounds-trace-end c).After-run-r), room (goal.at.slice_bounds-trace-end c).After-run-r)

pub slice_bounds-print_trace-end : goal.slice_bounds-print_trace-end
slice_bounds-print_trace-end c = sym (traced (goal.at.slice_bounds-print_trace-end c).After-run-r)

pub print_trace-next-requires : goal.print_trace-next-requires
print_trace-next-requires c =
    let n = traced (goal.at.print_trace-next-requires c).After-run-r in
    (omega (arith, n, few c.requires.0 c.requires.2 (low (goal.at.print_trace-next-requires c).After-run-r), c.requires.2.fits), omega (arith, n, early (goal.at.print_trace-next-requires c).After-run-r))

pub returns : goal.returns
returns c =
    let e = played-as (goal.at.returns c).After-run-r in
    let n = traced (goal.at.returns c).After-run-r in (
      omega (arith, c.print_trace-next.ensures.0, put-length c.print_trace-next.ensures.1, n, few c.requires.0 c.requires.2 (low (goal.at.returns c).After-run-r), c.requires.2.fits),
      fitting (goal.at.returns c).After-run-r,
      record {
        state = ap (λ (r : Run). r.state) (sym e);
        why = c.refusal.ensures ∙ ap (λ (r : Run). r.why) (sym e);
        put = subst (λ (l : List ℕ). Put c.args.out.now 0 c.print_trace-next.new.buf c.print_trace-next.result l) (ap (λ (r : Run). r.lines) (sym e)) c.print_trace-next.ensures.1;
      },
    )
