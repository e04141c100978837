-- The rows so far are counted; each adds 16 at most.
use Rattle.std.proofs.Common.{◌≡◌, ◌<◌, ℕ, length, get_or, refl, arith, add-one}
use Rattle.std.proofs.lemmas.Slice.Zip.{zip_turn, zip_end}
use Rattle.std.proofs.lemmas.List.{length_push}
use Rattle.mend.specs.Rows.{count}
use Rattle.mend.proofs.pairs.count_added.Goals as goal
use Rattle.mend.proofs.pairs.count_added.Goals.{In-Some}

-- The rows at hand are those at the place that the loop has come to.
here : (c : In-Some) → (length c.loop-row.yielded < length c.args.rows) × (length c.loop-row.yielded < length c.args.mended)
    × ((d : ℕ) → c.in-Some.row.now ≡ get_or c.args.rows (length c.loop-row.yielded) d) × ((d : ℕ) → c.in-Some.more.now ≡ get_or c.args.mended (length c.loop-row.yielded) d)
here c = zip_turn c.args.rows c.args.mended c.loop-row.yielded c.into_iter-row-iterator.result c.loop-row.row-iterator c.next.new.self c.next.result (cc) (cc) c.loop-row.yielded_by _ c.in-Some.is c.next.ensures.steps

pub more_ones-n-requires : goal.more_ones-n-requires
more_ones-n-requires c =
    let h = here (goal.at.more_ones-n-requires c).In-Some in
    rw (h.2 0, h.3 0) (c.requires.at (length c.loop-row.yielded) (omega (arith, h.0)))

pub loop-row-init : goal.loop-row-init
unfolding count
loop-row-init c = ((tt, tt), tt, refl, omega arith)

pub overflow_add-n : goal.overflow_add-n
overflow_add-n c = omega (arith, (here (goal.at.overflow_add-n c).In-Some).0, c.loop-row.invariant.3, c.more_ones-n.ensures.1)

pub loop-row-preserved : goal.loop-row-preserved
unfolding count
loop-row-preserved c =
    let h = here (goal.at.loop-row-preserved c).In-Some in
    let n = length_push c.loop-row.yielded (c.in-Some.row, c.in-Some.more) in
    ((tt, tt), tt, rw (n, add-one, c.loop-row.invariant.2, c.more_ones-n.ensures.0, h.2 0, h.3 0), omega (arith, n, c.loop-row.invariant.3, c.more_ones-n.ensures.1))

pub returns : goal.returns
returns c =
    let e : length c.loop-row.yielded ≡ 16 = omega (arith, zip_end c.args.rows c.args.mended c.loop-row.yielded c.into_iter-row-iterator.result c.loop-row.row-iterator c.next.new.self c.next.result (cc) (cc) c.loop-row.yielded_by c.in-None.is c.next.ensures.steps) in
    rw e at c.loop-row.invariant.2
