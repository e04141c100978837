-- How the code reads the comma form: the text is cut into numbers, the byte form judges them all at once, and the first fault of the
-- two in the order of judging is given. That this comes to `sheet_reading` is the law `scan_reads`.
use Rattle.std.specs.Prelude.{ℕ, zero, suc, ◌+◌, List, [], ◌∷◌, Bool, true, false, not, length, get_or, set, take, replicate, eqb, ltb, Option, None, Some, Err, ◌≡◌}
use Rattle.basis.specs.Tests.{pick, and}
use Rattle.numeral.specs.Number.{encode_all}
use Rattle.numeral.specs.Number.{Number}
use Rattle.numeral.specs.Number.{Value, Refused}
use Rattle.flow.specs.Gap.{Triple}
use Rattle.table.specs.declared.Table.{Table}
use Rattle.basis.specs.Told.{Told, answered}
use Rattle.basis.specs.Refusals.{number, values}
use Rattle.basis.specs.declared.refusal.Refusal.{Refusal}
use Rattle.reader.specs.declared.Fault.{Fault}
use Rattle.reader.specs.Reader.{Read, accepted, refused_at, gapped_at, read_of}
use Rattle.codec.specs.Judging.{wanted}
use Rattle.sheet.specs.declared.Stop.{Stop}
use Rattle.sheet.specs.declared.Stop.TheVariants.{NoNumber, WrongEnd}
use Rattle.sheet.specs.declared.Cutting.{Cutting as TheCutting}
use Rattle.sheet.specs.Field.{field_at}
use Rattle.sheet.specs.Text.{line_over}
use Rattle.sheet.specs.Sheet.{end_fault, behind, most_numbers}

-- A text that is being cut into numbers: the fault met (0: none), the place of the last field that was none or of the last number's end,
-- whether it is such an end, the start of the next field, and the numbers so far.
pub record Cutting : Type 0 where
  pub refusal : ℕ
  pub place : ℕ
  pub ended : Bool
  pub next : ℕ
  pub count : ℕ
  pub numbers : List ℕ

-- The number of what stopped the cutting, 0 where nothing did.
abbrev pub stop_why : Option Stop → ℕ
stop_why None = 0
stop_why (Some (NoNumber why)) = number why
stop_why (Some (WrongEnd f)) = number f.why

-- The place of what stopped the cutting: a field that is none stands next.
abbrev pub stop_place : ℕ → Option Stop → ℕ
stop_place next None = 0
stop_place next (Some (NoNumber why)) = next
stop_place next (Some (WrongEnd f)) = f.place

-- Whether a number's end stopped the cutting.
abbrev pub stop_ended : Option Stop → Bool
stop_ended None = false
stop_ended (Some (NoNumber why)) = false
stop_ended (Some (WrongEnd f)) = true

-- What a cutting of the code is.
abbrev pub cut_of : TheCutting → Cutting
cut_of c = record { refusal = stop_why c.stop; place = stop_place c.next c.stop; ended = stop_ended c.stop; next = c.next; count = c.count; numbers = c.numbers }

-- A cutting as far as it tells: the place of an end that is as due counts for nothing.
abbrev pub told_cut : Cutting → Cutting
told_cut c = record {
  refusal = c.refusal;
  place = pick (eqb c.refusal 0) 0 c.place;
  ended = pick (eqb c.refusal 0) false c.ended;
  next = c.next;
  count = c.count;
  numbers = c.numbers;
}

-- The numbers cut so far.
abbrev pub cut_numbers : Cutting → List ℕ
cut_numbers c = take c.count c.numbers

-- A number more, with its end.
unfoldable pub number_cut : List ℕ → Cutting → ℕ → ℕ → Cutting
number_cut s c v e =
    let ns = set c.numbers c.count v in
    let last = line_over (take (c.count + 1) ns) in
    record { refusal = end_fault s e last; place = e; ended = true; next = behind e last; count = c.count + 1; numbers = ns }

-- No number there.
abbrev pub none_cut : Cutting → ℕ → Cutting
none_cut c why = record { refusal = why; place = c.next; ended = false; next = c.next; count = c.count; numbers = c.numbers }

abbrev pub field_cut : List ℕ → Cutting → Number → Cutting
field_cut s c (Value v e) = number_cut s c v e
field_cut s c (Refused why) = none_cut c why

-- One field more is wanted: no fault was met, and there is room for its number.
unfoldable pub goes_on : Cutting → Bool
goes_on c = and (eqb c.refusal 0) (and (ltb c.count most_numbers) (wanted (cut_numbers c)))

unfoldable pub turned : List ℕ → Cutting → Cutting
turned s c = pick (goes_on c) (field_cut s c (field_at s c.next)) c

abbrev pub uncut : Cutting
uncut = record { refusal = 0; place = 0; ended = false; next = 0; count = 0; numbers = replicate most_numbers 0 }

-- The text cut into its first n fields at most.
unfoldable pub scanned : List ℕ → ℕ → Cutting
scanned s zero = uncut
scanned s (suc n) = turned s (scanned s n)

-- How many numbers end in these bytes: a byte below 128 is a number's last.
unfoldable pub numbers_in : List ℕ → ℕ
numbers_in [] = 0
numbers_in (b ∷ bs) = pick (ltb b 128) 1 0 + numbers_in bs

-- What a refusal of the code gives.
abbrev pub fault_read : Fault → Read
fault_read f = read_of (Err f)

-- The text's own fault.
abbrev pub own : Cutting → Read
own c = refused_at c.refusal c.place

-- A fault of the code is the text's own.
pub record TellsOwn (c : Cutting) (f : Fault) : Type 0 where
  pub why : number f.why ≡ c.refusal
  pub place : f.place ≡ c.place

-- The fault is the end of number k, the last one cut.
unfoldable pub ends_wrong : Cutting → ℕ → Bool
ends_wrong c k = and c.ended (and (not (eqb c.refusal 0)) (eqb c.count (k + 1)))

-- The bytes of the cut numbers.
abbrev pub cut_bytes : Cutting → List ℕ
cut_bytes c = encode_all (cut_numbers c)

-- All numbers pass: the text's own fault, text after the last line, or what was read.
unfoldable pub passed_by : List ℕ → Cutting → Read → Read
passed_by s c r = pick (eqb c.refusal 0) (pick (ltb c.next (length s)) (refused_at 10 c.next) r) (own c)

-- The start in the text of the number whose bytes start at a place of the bytes bs.
unfoldable pub start_of : List ℕ → List ℕ → ℕ → ℕ
start_of s bs place = (scanned s (numbers_in (take place bs))).next

-- A number is objected to: it is told with its place in the text. Where numbers are missing, it is the text's own fault.
unfoldable pub objected_by : List ℕ → Cutting → List ℕ → ℕ → ℕ → Read
objected_by s c bs why place = pick (eqb why 1) (own c) (refused_at why (start_of s bs place))

-- A gap: a wrong end behind its last row goes before it.
unfoldable pub gapped_by : List ℕ → Cutting → List ℕ → ℕ → Triple → Read
gapped_by s c bs place g = pick (ends_wrong c (numbers_in (take place bs))) (own c) (gapped_at (start_of s bs place) g)

-- What the byte form says: it accepts, or refuses with a number at a place, or with 7 and the three domains.
pub data Verdict : Type 0 where
  Accepted : Verdict
  No : ℕ → ℕ → Verdict
  Intransitive : ℕ → ℕ → ℕ → ℕ → Verdict

-- Document 01's number and values of a verdict.
abbrev pub verdict_told : Verdict → Told
verdict_told Accepted = answered []
verdict_told (No why place) = record { number = why; values = place ∷ [] }
verdict_told (Intransitive place a b c) = record { number = 7; values = place ∷ a ∷ b ∷ c ∷ [] }

-- The verdict that a refusal of the code with its place is.
abbrev pub verdict_by : ℕ → Refusal → Verdict
verdict_by place why =
    pick (eqb (number why) 7) (Intransitive place (get_or (values why) 0 0) (get_or (values why) 1 0) (get_or (values why) 2 0)) (No (number why) place)

-- What a verdict of the byte form on the bytes bs comes to.
abbrev pub joined : List ℕ → Cutting → List ℕ → Verdict → Table → Read
joined s c bs Accepted t = passed_by s c (accepted t)
joined s c bs (No why place) t = objected_by s c bs why place
joined s c bs (Intransitive place x y z) t = gapped_by s c bs place (record { a = x; b = y; c = z })
