-- The bytes of the cut numbers are put into a buffer that has room for three a number, and its front is judged.
use Prim.Native.Nat.{ℕ, ◌+◌, ◌≤◌}
use mathlib.Core.Path.{◌≡◌, sym, ◌∙◌}
use mathlib.Core.List.{List, ◌++◌}
use native.Mathlib.Nat.{zero-add}
use native.Mathlib.Omega.{arith}
use lib.ListN.{length, take, drop}
use lib.Seq.{length-take-le, take-append_seam, sets-eq}
use Rattle.writer.specs.Buffer.{Put}
use Rattle.writer.proofs.WriterLaws.{put-length}
use Rattle.sheet.specs.Scan.{cut_of, cut_bytes}
use Rattle.sheet.proofs.CutLaws.{kept-count, cut_short}
use Rattle.sheet.proofs.judge.judge.Goals as goal
use Rattle.sheet.proofs.judge.judge.Goals.{After-write_numbers-end}

-- What was put from the start of a buffer on stands at its front.
put_front : {b b' : List ℕ} {k : ℕ} {xs : List ℕ} → Put b 0 b' k xs → length xs ≤ length b → (k ≤ length b') × (take k b' ≡ xs)
put_front {b} {b'} {k} {xs} p h =
    let e : b' ≡ xs ++ drop (0 + length xs) b = p.holds ∙ sets-eq xs b 0 (omega arith) in
    let q : k ≡ length xs = omega (arith, p.end) in
    (omega (arith, put-length p, q, h), rw (q, e) (take-append_seam xs (drop (0 + length xs) b)))

-- The bytes of the cut numbers stand at the front of the buffer: what was cut fits in its array, and its bytes in the buffer.
front : (c : After-write_numbers-end) →
    (c.write_numbers-end.result ≤ length c.write_numbers-end.new.buf) × (take c.write_numbers-end.result c.write_numbers-end.new.buf ≡ cut_bytes (cut_of c.args.cut))
front c = put_front c.write_numbers-end.ensures (cut_short c.args.s.now (cut_of c.args.cut) c.requires).1

pub slice_bounds-numbers-end : goal.slice_bounds-numbers-end
slice_bounds-numbers-end c = let k = (cut_short c.args.s.now (cut_of c.args.cut) c.requires).0 in omega (arith, k.short, k.long)

pub slice_bounds-write_numbers-end-2 : goal.slice_bounds-write_numbers-end-2
slice_bounds-write_numbers-end-2 c = sym (kept-count (cut_short c.args.s.now (cut_of c.args.cut) c.requires).0)

pub write_numbers-end-requires : goal.write_numbers-end-requires
write_numbers-end-requires c = record { fits = rw zero-add (cut_short c.args.s.now (cut_of c.args.cut) c.requires).1 }

pub slice_bounds-bytes-end : goal.slice_bounds-bytes-end
slice_bounds-bytes-end c = (front (goal.at.slice_bounds-bytes-end c).After-write_numbers-end).0

pub slice_bounds-judge_bytes-end : goal.slice_bounds-judge_bytes-end
slice_bounds-judge_bytes-end c = sym (length-take-le _ _ (front (goal.at.slice_bounds-judge_bytes-end c).After-write_numbers-end).0)

pub judge_bytes-requires : goal.judge_bytes-requires
judge_bytes-requires c = (c.requires, (front (goal.at.judge_bytes-requires c).After-write_numbers-end).1)
