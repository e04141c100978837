-- To open it is to open all that a run of blocks, and what a domain is shown of it, compute with.
use Rattle.sight.specs.Opened.{opened as sight-opened}
use Rattle.block.specs.Opened.{opened as block-opened}
use Rattle.block_isolation.specs.Shown.{byte_shown, record_shown, block_shown}
use Rattle.block_isolation.specs.Isolated.{blocks}

unfoldable pub opened : {A : Type 0} → A → A
unfolding sight-opened block-opened byte_shown record_shown block_shown blocks
opened x = x
