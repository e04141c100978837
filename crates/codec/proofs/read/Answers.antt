-- What is read is the reader's; what is known of the slice says that it holds bytes.
use Rattle.numeral.proofs.NumberLaws.{held_bytes}
use Rattle.codec.proofs.read.Goals as goal

pub returns : goal.returns
returns c = (c.read.ensures, held_bytes c.shared_slice_known-1.given)
