-- Demand 3 over blocks: change at will the bytes of all threads whose domain may not flow to d, with the same masks, and of every call of a
-- run from a fresh start d is shown the same number, the same thread or gap for each byte of the record, and the same threads.
use Rattle.std.specs.Prelude.{ℕ, ◌+◌, ◌*◌, ◌<◌, ◌≡◌, List, [], ◌∷◌, map, true, length, get_or}
use Rattle.basis.specs.Turns.{in_turn}
use Rattle.table.specs.declared.Table.{Table}
use Rattle.state.specs.State.{fresh}
use Rattle.state.specs.declared.State.{State}
use Rattle.frame.specs.Mode.{Mode}
use Rattle.sight.specs.Shown.{visible}
use Rattle.block.specs.Block.{Blocked, recorded}
use Rattle.block_isolation.specs.Shown.{record_shown, block_shown}

-- What a call is handed beside the state: a mask a step, the bytes, the record that it is lent, and the place in it.
pub record Call : Type 0 where
  pub masks : List ℕ
  pub bytes : List ℕ
  pub out : List ℕ
  pub at : ℕ

abbrev pub call : Table → Mode → Call → State → Blocked
call t mode x s = recorded t mode x.masks x.bytes s x.out x.at

-- What each call gives, in turn: each is handed the state that the one before it handed back, refused or not.
unfoldable pub blocks : Table → Mode → List Call → State → List Blocked
blocks t mode a s = in_turn (call t mode) (λ (b : Blocked). b.state) a s

-- Two calls with the same masks, as many bytes, at each step the same for each thread whose domain may flow to d, and the same place in a
-- record that shows d the same.
pub record SameCall (t : Table) (d : ℕ) (x y : Call) : Type 0 where
  pub masks : x.masks ≡ y.masks
  pub long : length x.bytes ≡ length y.bytes
  pub same : (k i : ℕ) → visible t d i ≡ true → get_or x.bytes (k * t.count + i) 0 ≡ get_or y.bytes (k * t.count + i) 0
  pub places : x.at ≡ y.at
  pub records : record_shown t d x.out ≡ record_shown t d y.out

-- As many calls in both lists, and each two so.
pub data SameCalls (t : Table) (d : ℕ) : List Call → List Call → Type 0 where
  ended : SameCalls t d [] []
  next : {x y : Call} {us vs : List Call} → SameCall t d x y → SameCalls t d us vs → SameCalls t d (x ∷ us) (y ∷ vs)

-- From a fresh start each domain of the table is shown the same of every call, in whichever mode the steps are: the same frame in both runs.
abbrev pub IsolatedBlocks : Table → Mode → Type 0
IsolatedBlocks t mode = (d : ℕ) → d < t.domains → (a b : List Call) → SameCalls t d a b
    → map (block_shown t d) (blocks t mode a (fresh t)) ≡ map (block_shown t d) (blocks t mode b (fresh t))
