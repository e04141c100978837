-- What a sentence calls a number of the table, and what a call names.
use Rattle.std.specs.Prelude.{ℕ, List, ◌++◌, codes, decimal}
use Rattle.sentence.specs.declared.name.Head.{Head}
use Rattle.sentence.specs.declared.name.Head.TheVariants.{Version, Domains, Threads}
use Rattle.sentence.specs.declared.name.Field.{Field}
use Rattle.sentence.specs.declared.name.Field.TheVariants.{Domain, Priority, Period, Offset, Budget, Deadline, Blocking, Kind}
use Rattle.sentence.specs.declared.name.Spot.{Spot}
use Rattle.sentence.specs.declared.name.Spot.TheVariants as at
use Rattle.sentence.specs.declared.name.Subject.{Subject}
use Rattle.sentence.specs.declared.step.Named.{Named}
use Rattle.sentence.specs.declared.step.Named.TheVariants as by_number

abbrev pub head_name : Head → List ℕ
head_name Version = codes "the version"
head_name Domains = codes "the number of domains"
head_name Threads = codes "the number of threads"

abbrev pub field_name : Field → List ℕ
field_name Domain = codes "domain"
field_name Priority = codes "priority"
field_name Period = codes "period"
field_name Offset = codes "offset"
field_name Budget = codes "budget"
field_name Deadline = codes "deadline"
field_name Blocking = codes "blocking share"
field_name Kind = codes "kind"

-- In the middle of a sentence.
abbrev pub spot_name : Spot → List ℕ
spot_name (at.Head head) = head_name head
spot_name (at.Row domain) = codes "the row of domain " ++ decimal domain
spot_name (at.Field thread field) = codes "thread " ++ (decimal thread ++ (codes "'s " ++ field_name field))

-- At its start.
abbrev pub start_name : Spot → List ℕ
start_name (at.Field thread field) = codes "thread " ++ (decimal thread ++ (codes ": its " ++ field_name field))
start_name spot = spot_name spot

abbrev pub subject_name : Subject → List ℕ
subject_name s = start_name s.0

abbrev pub named_name : Named → List ℕ
named_name by_number.Domain = codes "domain"
named_name by_number.Thread = codes "thread"
