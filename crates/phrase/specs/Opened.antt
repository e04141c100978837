-- To open it is to open all that a filled template computes with.
use Rattle.basis.specs.Tests.{pick}
use Rattle.decimal.specs.Decimal.{decimal_in, decimal}
use Rattle.phrase.specs.Phrase.{piece, used, filled}

unfoldable pub opened : {A : Type 0} → A → A
unfolding pick decimal_in decimal piece used filled
opened x = x
