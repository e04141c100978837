-- What is put at the front of a buffer stands at its front.
use Rattle.std.proofs.Common.{◌≡◌, ℕ, ◌≤◌, ◌+◌, List, length, take, arith}
use Rattle.std.proofs.lemmas.List.Edits.{sets, sets-eq}
use Rattle.std.proofs.Math.Seq.{take-append_seam}
use Rattle.writer.specs.Buffer.{Put}

pub fronted : (b b' : List ℕ) (next : ℕ) (xs : List ℕ) → next ≤ length b → Put b 0 b' next xs → take next b' ≡ xs
fronted b b' next xs within p =
    let same : 0 + length xs ≡ length xs = omega arith in
    rw (p.holds, p.end, sets-eq xs b 0 (omega arith), same) (take-append_seam xs _)
