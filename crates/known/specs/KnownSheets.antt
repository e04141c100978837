-- The comma form by hand: E's text, each refusal with its place, and what spreadsheets are known to write.
use Rattle.std.specs.Prelude.{ℕ, refl, List, [], ◌∷◌, ◌++◌, set, take, drop, replicate}
use Rattle.example.specs.Example.{example, example_bytes}
use Rattle.table.specs.declared.Table.{Table}
use Rattle.reader.specs.Reader.{reading}
use Rattle.sheet.specs.Text.{text}
use Rattle.sheet.specs.Sheet.{sheet_reading}
use Rattle.sheet.specs.SheetWriter.{sheet_writing, sheet_written}
use Rattle.sheet.specs.Opened.{opened}
use Rattle.sheet.specs.Samples.{example_text}
use Rattle.known.specs.Entry.{Entry, Holds, same, all_same, by_numbers, flat}
use Rattle.known.specs.Example.{row_too_many, eventful, written_out}

-- The list is in parts, each computed by itself: one claim would take too many steps.

-- What a text is told.
abbrev sheet_told : List ℕ → List ℕ
sheet_told s = flat (sheet_reading s).told

-- What writing tells, and then the buffer.
abbrev sheet_put : List ℕ → ℕ → Table → List ℕ
sheet_put b at t = flat (sheet_writing b at t) ++ sheet_written b at t

-- E's text with other characters in place of n from a place on.
abbrev spelt : ℕ → ℕ → List ℕ → List ℕ
spelt at n xs = take at example_text ++ xs ++ drop n (drop at example_text)

-- `2,2,2`, `3,2`, `1,30,10,0,4,10,2,0`, `0,20,10,0,3,10,0,1`, each with CRLF: E in version 2, thread 1 released by events.
abbrev eventful_text : List ℕ
eventful_text =
    0x32 ∷ 0x2C ∷ 0x32 ∷ 0x2C ∷ 0x32 ∷ 0x0D ∷ 0x0A
    ∷ 0x33 ∷ 0x2C ∷ 0x32 ∷ 0x0D ∷ 0x0A
    ∷ 0x31 ∷ 0x2C ∷ 0x33 ∷ 0x30 ∷ 0x2C ∷ 0x31 ∷ 0x30 ∷ 0x2C ∷ 0x30 ∷ 0x2C ∷ 0x34 ∷ 0x2C ∷ 0x31 ∷ 0x30 ∷ 0x2C ∷ 0x32 ∷ 0x2C ∷ 0x30 ∷ 0x0D ∷ 0x0A
    ∷ 0x30 ∷ 0x2C ∷ 0x32 ∷ 0x30 ∷ 0x2C ∷ 0x31 ∷ 0x30 ∷ 0x2C ∷ 0x30 ∷ 0x2C ∷ 0x33 ∷ 0x2C ∷ 0x31 ∷ 0x30 ∷ 0x2C ∷ 0x30 ∷ 0x2C ∷ 0x31 ∷ 0x0D ∷ 0x0A ∷ []

-- E's lines, each with LF alone.
abbrev unix_text : List ℕ
unix_text =
    0x31 ∷ 0x2C ∷ 0x32 ∷ 0x2C ∷ 0x32 ∷ 0x0A
    ∷ 0x33 ∷ 0x2C ∷ 0x32 ∷ 0x0A
    ∷ 0x31 ∷ 0x2C ∷ 0x33 ∷ 0x30 ∷ 0x2C ∷ 0x31 ∷ 0x30 ∷ 0x2C ∷ 0x30 ∷ 0x2C ∷ 0x34 ∷ 0x2C ∷ 0x31 ∷ 0x30 ∷ 0x2C ∷ 0x32 ∷ 0x0A
    ∷ 0x30 ∷ 0x2C ∷ 0x32 ∷ 0x30 ∷ 0x2C ∷ 0x31 ∷ 0x30 ∷ 0x2C ∷ 0x30 ∷ 0x2C ∷ 0x33 ∷ 0x2C ∷ 0x31 ∷ 0x30 ∷ 0x2C ∷ 0x30 ∷ 0x0A ∷ []

-- `1,3,1` and CRLF, `3,6,4`: rows that are not transitive, without the end of their line.
abbrev gapped : List ℕ
gapped = 0x31 ∷ 0x2C ∷ 0x33 ∷ 0x2C ∷ 0x31 ∷ 0x0D ∷ 0x0A ∷ 0x33 ∷ 0x2C ∷ 0x36 ∷ 0x2C ∷ 0x34 ∷ []

abbrev tables : List Entry
tables =
    -- E's text, what it is read to, and that its bytes are read to the same
    record { computed = text example; by_hand = example_text }
    ∷ record { computed = sheet_told example_text; by_hand = 0 ∷ [] }
    ∷ record { computed = written_out (sheet_reading example_text).table; by_hand = written_out (reading example_bytes).table }
    -- version 2, with the kinds
    ∷ record { computed = text eventful; by_hand = eventful_text }
    ∷ record { computed = sheet_told eventful_text; by_hand = 0 ∷ [] }
    ∷ record { computed = written_out (sheet_reading eventful_text).table; by_hand = written_out eventful }
    ∷ []

pub all-tables : Holds tables
unfolding opened same all_same
all-tables = by_numbers tables refl

abbrev ones : List Entry
ones =
    -- 1: an empty file; a field that the text ends in, whatever stands in it, with and without a CR: the last line has its CRLF too
    record { computed = sheet_told []; by_hand = 1 ∷ 0 ∷ [] }
    ∷ record { computed = sheet_told (take 46 example_text); by_hand = 1 ∷ 45 ∷ [] }
    ∷ record { computed = sheet_told (take 47 example_text); by_hand = 1 ∷ 45 ∷ [] }
    ∷ record { computed = sheet_told (0x78 ∷ []); by_hand = 1 ∷ 0 ∷ [] }
    -- 1: an empty field before a comma, and an empty line
    ∷ record { computed = sheet_told (0x2C ∷ example_text); by_hand = 1 ∷ 0 ∷ [] }
    ∷ record { computed = sheet_told (spelt 7 0 (0x0D ∷ 0x0A ∷ [])); by_hand = 1 ∷ 7 ∷ [] }
    ∷ []

pub all_ones : Holds ones
unfolding opened same all_same
all_ones = by_numbers ones refl

abbrev twos : List Entry
twos =
    -- 2: 01, 00, a letter, a sign, a space before and behind
    record { computed = sheet_told (0x30 ∷ example_text); by_hand = 2 ∷ 0 ∷ [] }
    ∷ record { computed = sheet_told (spelt 20 1 (0x30 ∷ 0x30 ∷ [])); by_hand = 2 ∷ 20 ∷ [] }
    ∷ record { computed = sheet_told (spelt 2 1 (0x78 ∷ [])); by_hand = 2 ∷ 2 ∷ [] }
    ∷ record { computed = sheet_told (0x2B ∷ example_text); by_hand = 2 ∷ 0 ∷ [] }
    ∷ record { computed = sheet_told (spelt 2 0 (0x20 ∷ [])); by_hand = 2 ∷ 2 ∷ [] }
    ∷ record { computed = sheet_told (spelt 5 0 (0x20 ∷ [])); by_hand = 2 ∷ 4 ∷ [] }
    ∷ []

pub all-twos : Holds twos
unfolding opened same all_same
all-twos = by_numbers twos refl

abbrev strangers : List Entry
strangers =
    -- 2: a quoted field, a byte order mark
    record { computed = sheet_told (spelt 0 1 (0x22 ∷ 0x31 ∷ 0x22 ∷ [])); by_hand = 2 ∷ 0 ∷ [] }
    ∷ record { computed = sheet_told (0xEF ∷ 0xBB ∷ 0xBF ∷ example_text); by_hand = 2 ∷ 0 ∷ [] }
    -- 2: LF alone, CR alone, and LF CR are no ends: the field goes on to the next comma
    ∷ record { computed = sheet_told unix_text; by_hand = 2 ∷ 4 ∷ [] }
    ∷ record { computed = sheet_told (spelt 5 2 (0x0A ∷ [])); by_hand = 2 ∷ 4 ∷ [] }
    ∷ record { computed = sheet_told (spelt 5 2 (0x0D ∷ [])); by_hand = 2 ∷ 4 ∷ [] }
    ∷ record { computed = sheet_told (spelt 5 2 (0x0A ∷ 0x0D ∷ [])); by_hand = 2 ∷ 4 ∷ [] }
    -- 1: LF alone behind the last line, which the text ends in
    ∷ record { computed = sheet_told (spelt 46 2 (0x0A ∷ [])); by_hand = 1 ∷ 45 ∷ [] }
    ∷ []

pub all-strangers : Holds strangers
unfolding opened same all_same
all-strangers = by_numbers strangers refl

abbrev turns : List Entry
turns =
    -- 2 before 3: a non-digit behind 70 digits; 2 before 4, and before a wrong end
    record { computed = sheet_told (replicate 70 0x39 ++ (0x78 ∷ 0x2C ∷ [])); by_hand = 2 ∷ 0 ∷ [] }
    ∷ record { computed = sheet_told (0x30 ∷ 0x33 ∷ 0x2C ∷ []); by_hand = 2 ∷ 0 ∷ [] }
    ∷ record { computed = sheet_told (0x30 ∷ 0x31 ∷ 0x0D ∷ 0x0A ∷ []); by_hand = 2 ∷ 0 ∷ [] }
    -- 3: 65,536, and a field of 70 digits, before 4; 65,535 is out of its range only
    ∷ record { computed = sheet_told (0x36 ∷ 0x35 ∷ 0x35 ∷ 0x33 ∷ 0x36 ∷ 0x2C ∷ []); by_hand = 3 ∷ 0 ∷ [] }
    ∷ record { computed = sheet_told (replicate 70 0x39 ++ (0x2C ∷ [])); by_hand = 3 ∷ 0 ∷ [] }
    ∷ record { computed = sheet_told (0x36 ∷ 0x35 ∷ 0x35 ∷ 0x33 ∷ 0x35 ∷ 0x2C ∷ []); by_hand = 4 ∷ 0 ∷ [] }
    ∷ []

pub all-turns : Holds turns
unfolding opened same all_same
all-turns = by_numbers turns refl

abbrev edges : List Entry
edges =
    -- 1 before 3 where the text ends in the field
    record { computed = sheet_told (0x36 ∷ 0x35 ∷ 0x35 ∷ 0x33 ∷ 0x36 ∷ []); by_hand = 1 ∷ 0 ∷ [] }
    -- 2 before 3: a first zero
    ∷ record { computed = sheet_told (0x30 ∷ 0x36 ∷ 0x35 ∷ 0x35 ∷ 0x33 ∷ 0x36 ∷ 0x2C ∷ []); by_hand = 2 ∷ 0 ∷ [] }
    -- 2: the neighbours of the digits
    ∷ record { computed = sheet_told (0x3A ∷ 0x2C ∷ []); by_hand = 2 ∷ 0 ∷ [] }
    ∷ record { computed = sheet_told (0x2F ∷ 0x2C ∷ []); by_hand = 2 ∷ 0 ∷ [] }
    -- 2: a CR before the CRLF is a non-digit of the field
    ∷ record { computed = sheet_told (0x31 ∷ 0x2C ∷ 0x32 ∷ 0x2C ∷ 0x32 ∷ 0x0D ∷ 0x0D ∷ 0x0A ∷ []); by_hand = 2 ∷ 4 ∷ [] }
    -- 3: numbers that 32 and 64 bits would take for 1
    ∷ record { computed = sheet_told (0x34 ∷ 0x32 ∷ 0x39 ∷ 0x34 ∷ 0x39 ∷ 0x36 ∷ 0x37 ∷ 0x32 ∷ 0x39 ∷ 0x37 ∷ 0x2C ∷ []); by_hand = 3 ∷ 0 ∷ [] }
    ∷ record { computed = sheet_told (0x31 ∷ 0x38 ∷ 0x34 ∷ 0x34 ∷ 0x36 ∷ 0x37 ∷ 0x34 ∷ 0x34 ∷ 0x30 ∷ 0x37 ∷ 0x33 ∷ 0x37 ∷ 0x30 ∷ 0x39 ∷ 0x35 ∷ 0x35 ∷ 0x31 ∷ 0x36 ∷ 0x31 ∷ 0x37 ∷ 0x2C ∷ []); by_hand = 3 ∷ 0 ∷ [] }
    -- 10: a comma behind the only row
    ∷ record { computed = sheet_told (0x31 ∷ 0x2C ∷ 0x31 ∷ 0x2C ∷ 0x31 ∷ 0x0D ∷ 0x0A ∷ 0x31 ∷ 0x2C ∷ []); by_hand = 10 ∷ 8 ∷ [] }
    -- 1: a CRLF behind the first of two rows
    ∷ record { computed = sheet_told (0x31 ∷ 0x2C ∷ 0x32 ∷ 0x2C ∷ 0x31 ∷ 0x0D ∷ 0x0A ∷ 0x33 ∷ 0x0D ∷ 0x0A ∷ []); by_hand = 1 ∷ 8 ∷ [] }
    ∷ []

pub all_edges : Holds edges
unfolding opened same all_same
all_edges = by_numbers edges refl

abbrev ranges : List Entry
ranges =
    -- 4: version 3; 5: 0 domains, 33 threads
    record { computed = sheet_told (set example_text 0 0x33); by_hand = 4 ∷ 0 ∷ [] }
    ∷ record { computed = sheet_told (set example_text 2 0x30); by_hand = 5 ∷ 2 ∷ [] }
    ∷ record { computed = sheet_told (spelt 4 1 (0x33 ∷ 0x33 ∷ [])); by_hand = 5 ∷ 4 ∷ [] }
    -- a range before a wrong end: 4 before 1 at a CRLF, 5 before 10 at a comma
    ∷ record { computed = sheet_told (0x33 ∷ 0x0D ∷ 0x0A ∷ []); by_hand = 4 ∷ 0 ∷ [] }
    ∷ record { computed = sheet_told (spelt 4 1 (0x33 ∷ 0x33 ∷ 0x2C ∷ [])); by_hand = 5 ∷ 4 ∷ [] }
    -- 6: row 0 with a bit for domain 2, row 1 without its own
    ∷ record { computed = sheet_told (set example_text 7 0x37); by_hand = 6 ∷ 7 ∷ [] }
    ∷ record { computed = sheet_told (set example_text 9 0x31); by_hand = 6 ∷ 9 ∷ [] }
    ∷ []

pub all-ranges : Holds ranges
unfolding opened same all_same
all-ranges = by_numbers ranges refl

abbrev gaps : List Entry
gaps =
    -- 7 at the last row, before the threads
    record { computed = sheet_told (gapped ++ (0x0D ∷ 0x0A ∷ [])); by_hand = 7 ∷ 11 ∷ 0 ∷ 1 ∷ 2 ∷ [] }
    ∷ record { computed = sheet_told (gapped ++ (0x0D ∷ 0x0A ∷ 0x78 ∷ [])); by_hand = 7 ∷ 11 ∷ 0 ∷ 1 ∷ 2 ∷ [] }
    -- the end of that line goes before it: 10 at a comma, 1 where the text ends
    ∷ record { computed = sheet_told (gapped ++ (0x2C ∷ [])); by_hand = 10 ∷ 12 ∷ [] }
    ∷ record { computed = sheet_told gapped; by_hand = 1 ∷ 11 ∷ [] }
    ∷ []

pub all-gaps : Holds gaps
unfolding opened same all_same
all-gaps = by_numbers gaps refl

abbrev fields_judged : List Entry
fields_judged =
    -- 8: thread 0's domain 2; a kind of 2; thread 1 released by events with an offset of 5; 9: thread 1 with thread 0's priority
    record { computed = sheet_told (set example_text 12 0x32); by_hand = 8 ∷ 12 ∷ [] }
    ∷ record { computed = sheet_told (set eventful_text 49 0x32); by_hand = 8 ∷ 49 ∷ [] }
    ∷ record { computed = sheet_told (set eventful_text 40 0x35); by_hand = 8 ∷ 49 ∷ [] }
    ∷ record { computed = sheet_told (set example_text 32 0x33); by_hand = 9 ∷ 32 ∷ [] }
    -- version 1 has no kind, and version 2 has one
    ∷ record { computed = sheet_told (set eventful_text 0 0x31); by_hand = 10 ∷ 28 ∷ [] }
    ∷ record { computed = sheet_told (set example_text 0 0x32); by_hand = 1 ∷ 28 ∷ [] }
    ∷ []

pub all-fields_judged : Holds fields_judged
unfolding opened same all_same
all-fields_judged = by_numbers fields_judged refl

abbrev commas : List Entry
commas =
    -- 1 at the CRLF where a comma is due: in the first line, in the rows, in a thread
    record { computed = sheet_told (0x31 ∷ 0x0D ∷ 0x0A ∷ []); by_hand = 1 ∷ 1 ∷ [] }
    ∷ record { computed = sheet_told (spelt 8 1 (0x0D ∷ 0x0A ∷ [])); by_hand = 1 ∷ 8 ∷ [] }
    ∷ record { computed = sheet_told (spelt 44 2 []); by_hand = 1 ∷ 44 ∷ [] }
    -- 10 at the comma where a CRLF is due: a trailing comma in each kind of line; all in one line
    ∷ record { computed = sheet_told (spelt 5 0 (0x2C ∷ [])); by_hand = 10 ∷ 5 ∷ [] }
    ∷ record { computed = sheet_told (spelt 10 0 (0x2C ∷ [])); by_hand = 10 ∷ 10 ∷ [] }
    ∷ record { computed = sheet_told (spelt 46 0 (0x2C ∷ [])); by_hand = 10 ∷ 46 ∷ [] }
    ∷ record { computed = sheet_told (spelt 5 2 (0x2C ∷ [])); by_hand = 10 ∷ 5 ∷ [] }
    ∷ []

pub all-commas : Holds commas
unfolding opened same all_same
all-commas = by_numbers commas refl

abbrev leftovers : List Entry
leftovers =
    -- 10: the first character after the last line
    record { computed = sheet_told (example_text ++ (0x0D ∷ 0x0A ∷ [])); by_hand = 10 ∷ 48 ∷ [] }
    ∷ record { computed = sheet_told (example_text ++ (0x1A ∷ [])); by_hand = 10 ∷ 48 ∷ [] }
    -- the leftmost fault wins: thread 0's period 0 with text after the last line
    ∷ record { computed = sheet_told (spelt 17 2 (0x30 ∷ []) ++ (0x78 ∷ [])); by_hand = 8 ∷ 17 ∷ [] }
    -- a refused reading's table is zero in all 3 + 16 + 32 * 8 numbers
    ∷ record { computed = written_out (sheet_reading (example_text ++ (0x78 ∷ []))).table; by_hand = replicate 275 0 }
    ∷ record { computed = written_out (sheet_reading (gapped ++ (0x0D ∷ 0x0A ∷ []))).table; by_hand = replicate 275 0 }
    ∷ []

pub all-leftovers : Holds leftovers
unfolding opened same all_same
all-leftovers = by_numbers leftovers refl

abbrev writings : List Entry
writings =
    -- E written from place 2 on: the place after it is 50, and the bytes around it stay
    record { computed = sheet_put (replicate 51 0xFF) 2 example; by_hand = 0 ∷ 50 ∷ 0xFF ∷ 0xFF ∷ (example_text ++ (0xFF ∷ [])) }
    -- 16: one too few, and a place past the end; 11 before it
    ∷ record { computed = sheet_put (replicate 49 0xFF) 2 example; by_hand = 16 ∷ replicate 49 0xFF }
    ∷ record { computed = sheet_put (replicate 2 0xFF) 3 example; by_hand = 16 ∷ replicate 2 0xFF }
    ∷ record { computed = sheet_put (replicate 2 0xFF) 3 row_too_many; by_hand = 11 ∷ replicate 2 0xFF }
    ∷ []

pub all-writings : Holds writings
unfolding opened same all_same
all-writings = by_numbers writings refl
