-- The part of the buffer that the text is copied into lies between what stays before it and what stays behind it.
use Prim.Native.Nat.{◌+◌}
use mathlib.Core.Path.{refl, sym}
use mathlib.Core.List.{append_assoc}
use native.Mathlib.Omega.{arith}
use lib.ListN.{length}
use lib.Seq.{sets-eq}
use borrow.Rule.Slice.PartMut.{Post-is}
use Rattle.report.proofs.text.put.Goals as goal

pub returns : goal.returns
returns c = record {
  end = refl;
  holds =
      rw (c.copy_from_slice.ensures.after, Post-is c.args.at (c.args.at + length c.args.text.now) c.args.buf.now (omega arith))
      (sym (rw append_assoc at (sets-eq c.args.text.now c.args.buf.now c.args.at c.requires.fits)));
}
