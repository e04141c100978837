-- More of document 01 by hand: bytes of a table, legal tables, marks and the writer.
use Rattle.std.specs.Prelude.{ℕ, ◌^◌, refl, List, [], ◌∷◌, ◌++◌, map, set, take, replicate}
use Rattle.basis.specs.Search.{listed}
use Rattle.table.specs.Threads.{thread_of}
use Rattle.table.specs.declared.Table.{Table}
use Rattle.example.specs.Example.{table_of, task, event, in_version, example, example_bytes, upper, lower}
use Rattle.example.specs.Story.{story}
use Rattle.reader.specs.Reader.{reading}
use Rattle.reader.specs.Opened.{opened as reader-opened}
use Rattle.writer.specs.Format.{bytes}
use Rattle.writer.specs.Opened.{opened as writer-opened}
use Rattle.known.specs.Entry.{Entry, Holds, same, all_same, by_numbers, number_of, gap_of, is_legal, read_told, marks_told, write_told}
use Rattle.known.specs.Example.{two, with_threads, exchanged, both_ways, row_too_many, place_too_many, eventful, written_out}

-- Two threads with each number as high, and as low, as it may be; and its bytes.
abbrev extremes : Table
extremes = table_of (1 ∷ []) (task 0 255 60000 59999 60000 60000 60000 ∷ task 0 0 1 0 1 1 0 ∷ [])

abbrev extreme_bytes : List ℕ
extreme_bytes =
    0x01 ∷ 0x01 ∷ 0x02 ∷ 0x01
    ∷ 0x00 ∷ 0xFF ∷ 0x01 ∷ 0xE0 ∷ 0xD4 ∷ 0x03 ∷ 0xDF ∷ 0xD4 ∷ 0x03 ∷ 0xE0 ∷ 0xD4 ∷ 0x03 ∷ 0xE0 ∷ 0xD4 ∷ 0x03 ∷ 0xE0 ∷ 0xD4 ∷ 0x03
    ∷ 0x00 ∷ 0x00 ∷ 0x01 ∷ 0x00 ∷ 0x01 ∷ 0x01 ∷ 0x00 ∷ []

-- One thread whose seven fields all differ, and its bytes.
abbrev different : Table
different = table_of (1 ∷ []) (task 0 5 10 3 2 7 1 ∷ [])

abbrev different_bytes : List ℕ
different_bytes = 0x01 ∷ 0x01 ∷ 0x01 ∷ 0x01 ∷ 0x00 ∷ 0x05 ∷ 0x0A ∷ 0x03 ∷ 0x02 ∷ 0x07 ∷ 0x01 ∷ []

-- The bytes of E in version 2, with thread 1 released by events: a kind behind each blocking share, at 12 and at 20.
abbrev eventful_bytes : List ℕ
eventful_bytes =
    0x02 ∷ 0x02 ∷ 0x02 ∷ 0x03 ∷ 0x02
    ∷ 0x01 ∷ 0x1E ∷ 0x0A ∷ 0x00 ∷ 0x04 ∷ 0x0A ∷ 0x02 ∷ 0x00
    ∷ 0x00 ∷ 0x14 ∷ 0x0A ∷ 0x00 ∷ 0x03 ∷ 0x0A ∷ 0x00 ∷ 0x01 ∷ []

-- Eight domains, of which 0 flows to 1 and 1 to 2 only; the last row, 128, takes two bytes.
abbrev eight_rows : List ℕ
eight_rows = 0x01 ∷ 0x08 ∷ 0x01 ∷ 0x03 ∷ 0x06 ∷ 0x04 ∷ 0x08 ∷ 0x10 ∷ 0x20 ∷ 0x40 ∷ 0x80 ∷ 0x01 ∷ []

-- Sixteen domains that flow to themselves only, and 32 threads, thread i with the priority i.
abbrev widest : Table
widest = table_of (listed 16 (λ i. 2 ^ i)) (listed 32 (λ i. task 15 i 10 0 1 1 0))

abbrev known : List Entry
known =
    -- example E is legal; its bytes, and what they are read to
    record { computed = is_legal example ∷ []; by_hand = 1 ∷ [] }
    ∷ record { computed = bytes example; by_hand = example_bytes }
    ∷ record { computed = read_told example_bytes; by_hand = 0 ∷ [] }
    ∷ record { computed = written_out (reading example_bytes).table; by_hand = written_out example }
    -- the fields in their order: domain, priority, P, O, W, D, B
    ∷ record { computed = written_out (reading different_bytes).table; by_hand = written_out different }
    ∷ record { computed = bytes different; by_hand = different_bytes }
    -- a byte wanted but missing gives 1, also where the byte before it is the second
    ∷ record { computed = number_of (0x80 ∷ []); by_hand = 1 ∷ [] }
    ∷ record { computed = number_of (0x80 ∷ 0x80 ∷ []); by_hand = 1 ∷ [] }
    -- a third byte with its top bit set gives 3, a last byte of 0 after two others 2, a value above 65,535 3
    ∷ record { computed = number_of (0x80 ∷ 0x80 ∷ 0x80 ∷ []); by_hand = 3 ∷ [] }
    ∷ record { computed = number_of (0x80 ∷ 0x80 ∷ 0x00 ∷ []); by_hand = 2 ∷ [] }
    ∷ record { computed = number_of (0xFF ∷ 0xFF ∷ 0x04 ∷ []); by_hand = 3 ∷ [] }
    -- 1: no bytes at all; E without its last byte; E with a last number whose second byte is missing
    ∷ record { computed = read_told []; by_hand = 1 ∷ 0 ∷ [] }
    ∷ record { computed = read_told (take 18 example_bytes); by_hand = 1 ∷ 18 ∷ [] }
    ∷ record { computed = read_told (take 18 example_bytes ++ (0x80 ∷ [])); by_hand = 1 ∷ 18 ∷ [] }
    -- 2: the last number 0 in two bytes
    ∷ record { computed = read_told (take 18 example_bytes ++ (0x80 ∷ 0x00 ∷ [])); by_hand = 2 ∷ 18 ∷ [] }
    -- 3: thread 0's period 65,536, and in more than three bytes
    ∷ record { computed = read_told (take 7 example_bytes ++ (0x80 ∷ 0x80 ∷ 0x04 ∷ [])); by_hand = 3 ∷ 7 ∷ [] }
    ∷ record { computed = read_told (take 7 example_bytes ++ (0x80 ∷ 0x80 ∷ 0x80 ∷ 0x01 ∷ [])); by_hand = 3 ∷ 7 ∷ [] }
    -- 4: version 3 and 0
    ∷ record { computed = read_told (set example_bytes 0 0x03); by_hand = 4 ∷ 0 ∷ [] }
    ∷ record { computed = read_told (set example_bytes 0 0x00); by_hand = 4 ∷ 0 ∷ [] }
    -- 5: 0 and 17 domains, 0 and 33 threads
    ∷ record { computed = read_told (set example_bytes 1 0x00); by_hand = 5 ∷ 1 ∷ [] }
    ∷ record { computed = read_told (set example_bytes 1 0x11); by_hand = 5 ∷ 1 ∷ [] }
    ∷ record { computed = read_told (set example_bytes 2 0x00); by_hand = 5 ∷ 2 ∷ [] }
    ∷ record { computed = read_told (set example_bytes 2 0x21); by_hand = 5 ∷ 2 ∷ [] }
    -- 16 domains and 32 threads pass: then the first row is wanted
    ∷ record { computed = read_told (0x01 ∷ 0x10 ∷ 0x20 ∷ []); by_hand = 1 ∷ 3 ∷ [] }
    -- 6: row 0 has a bit for domain 2, which the table lacks; row 1 lacks its own
    ∷ record { computed = read_told (set example_bytes 3 0x07); by_hand = 6 ∷ 3 ∷ [] }
    ∷ record { computed = read_told (set example_bytes 4 0x01); by_hand = 6 ∷ 4 ∷ [] }
    -- 7: version 1, 3 domains, 1 thread, rows 3, 6, 4: 0 flows to 1, 1 to 2, 0 not to 2; the last row stands at 5
    ∷ record { computed = read_told (0x01 ∷ 0x03 ∷ 0x01 ∷ 0x03 ∷ 0x06 ∷ 0x04 ∷ []); by_hand = 7 ∷ 5 ∷ 0 ∷ 1 ∷ 2 ∷ [] }
    -- 7: the start of the last row, where it takes two bytes
    ∷ record { computed = read_told eight_rows; by_hand = 7 ∷ 10 ∷ 0 ∷ 1 ∷ 2 ∷ [] }
    -- 7: smallest a, then b, then c: 0 flows to 1 and 2, 1 to 4, 2 to 3; b goes before c, so 0, 1, 4 and not 0, 2, 3
    ∷ record { computed = gap_of (0x07 ∷ 0x12 ∷ 0x0C ∷ 0x08 ∷ 0x10 ∷ []); by_hand = 7 ∷ 0 ∷ 1 ∷ 4 ∷ [] }
    ∷ record { computed = read_told (0x01 ∷ 0x05 ∷ 0x01 ∷ 0x07 ∷ 0x12 ∷ 0x0C ∷ 0x08 ∷ 0x10 ∷ []); by_hand = 7 ∷ 7 ∷ 0 ∷ 1 ∷ 4 ∷ [] }
    -- 7: with 3 flowing to 0, too: a goes before b and c, so 0, 1, 4 and neither 3, 0, 1 nor 2, 3, 0
    ∷ record { computed = gap_of (0x07 ∷ 0x12 ∷ 0x0C ∷ 0x09 ∷ 0x10 ∷ []); by_hand = 7 ∷ 0 ∷ 1 ∷ 4 ∷ [] }
    -- 7: 0 flows to 1, and 1 to 2, 3 and 4: the smallest c is 2
    ∷ record { computed = gap_of (0x03 ∷ 0x1E ∷ 0x04 ∷ 0x08 ∷ 0x10 ∷ []); by_hand = 7 ∷ 0 ∷ 1 ∷ 2 ∷ [] }
    -- 8: thread 0's domain 2, priority 256, period 0, offset 10, budget 11, deadline 3, blocking share 5
    ∷ record { computed = read_told (set example_bytes 5 0x02); by_hand = 8 ∷ 5 ∷ [] }
    ∷ record { computed = read_told (take 6 example_bytes ++ (0x80 ∷ 0x02 ∷ [])); by_hand = 8 ∷ 6 ∷ [] }
    ∷ record { computed = read_told (set example_bytes 7 0x00); by_hand = 8 ∷ 7 ∷ [] }
    ∷ record { computed = read_told (set example_bytes 8 0x0A); by_hand = 8 ∷ 8 ∷ [] }
    ∷ record { computed = read_told (set example_bytes 9 0x0B); by_hand = 8 ∷ 9 ∷ [] }
    ∷ record { computed = read_told (set example_bytes 10 0x03); by_hand = 8 ∷ 10 ∷ [] }
    ∷ record { computed = read_told (set example_bytes 11 0x05); by_hand = 8 ∷ 11 ∷ [] }
    -- 8: period 60,001, budget 0, and a deadline of 11 with a period of 10
    ∷ record { computed = read_told (take 7 example_bytes ++ (0xE1 ∷ 0xD4 ∷ 0x03 ∷ [])); by_hand = 8 ∷ 7 ∷ [] }
    ∷ record { computed = read_told (set example_bytes 9 0x00); by_hand = 8 ∷ 9 ∷ [] }
    ∷ record { computed = read_told (set example_bytes 10 0x0B); by_hand = 8 ∷ 10 ∷ [] }
    -- each range to its ends: priority 255 and 0, P 60,000 and 1, O P - 1, W P, D P, B W and 0
    ∷ record { computed = read_told extreme_bytes; by_hand = 0 ∷ [] }
    ∷ record { computed = written_out (reading extreme_bytes).table; by_hand = written_out extremes }
    ∷ record { computed = bytes extremes; by_hand = extreme_bytes }
    ∷ record { computed = is_legal extremes ∷ []; by_hand = 1 ∷ [] }
    -- 9: thread 1 with thread 0's priority
    ∷ record { computed = read_told (set example_bytes 13 0x1E); by_hand = 9 ∷ 13 ∷ [] }
    -- 10: the first extra byte
    ∷ record { computed = read_told (example_bytes ++ (0x00 ∷ [])); by_hand = 10 ∷ 19 ∷ [] }
    ∷ record { computed = read_told (example_bytes ++ (0x00 ∷ 0x80 ∷ [])); by_hand = 10 ∷ 19 ∷ [] }
    -- each number is judged as it is read: version 3 and no more bytes, 0 domains and no more, and a row that lacks its own
    ∷ record { computed = read_told (0x03 ∷ []); by_hand = 4 ∷ 0 ∷ [] }
    ∷ record { computed = read_told (0x01 ∷ 0x00 ∷ []); by_hand = 5 ∷ 1 ∷ [] }
    ∷ record { computed = read_told (0x01 ∷ 0x02 ∷ 0x02 ∷ 0x02 ∷ []); by_hand = 6 ∷ 3 ∷ [] }
    -- the leftmost fault wins: version 3 with a byte more; thread 0's period 0 with thread 1's priority taken
    ∷ record { computed = read_told (set example_bytes 0 0x03 ++ (0x00 ∷ [])); by_hand = 4 ∷ 0 ∷ [] }
    ∷ record { computed = read_told (set (set example_bytes 7 0x00) 13 0x1E); by_hand = 8 ∷ 7 ∷ [] }
    -- the transitive test follows the last row: rows 3, 6 and then 0, which lacks its own
    ∷ record { computed = read_told (0x01 ∷ 0x03 ∷ 0x01 ∷ 0x03 ∷ 0x06 ∷ 0x00 ∷ []); by_hand = 6 ∷ 5 ∷ [] }
    -- and it goes before the threads: rows 3, 6, 4, then domain 3
    ∷ record { computed = read_told (0x01 ∷ 0x03 ∷ 0x01 ∷ 0x03 ∷ 0x06 ∷ 0x04 ∷ 0x03 ∷ []); by_hand = 7 ∷ 5 ∷ 0 ∷ 1 ∷ 2 ∷ [] }
    -- a refused reading's table is zero in all 3 + 16 + 32 * 8 numbers: at the first byte, at the last, for a gap and for an extra byte
    ∷ record { computed = written_out (reading []).table; by_hand = replicate 275 0 }
    ∷ record { computed = written_out (reading (take 18 example_bytes)).table; by_hand = replicate 275 0 }
    ∷ record { computed = written_out (reading eight_rows).table; by_hand = replicate 275 0 }
    ∷ record { computed = written_out (reading (example_bytes ++ (0x00 ∷ []))).table; by_hand = replicate 275 0 }
    -- version 2: its bytes, what they are read to, and where they are written
    ∷ record { computed = bytes eventful; by_hand = eventful_bytes }
    ∷ record { computed = read_told eventful_bytes; by_hand = 0 ∷ [] }
    ∷ record {
      computed = written_out (reading eventful_bytes).table;
      by_hand = 2 ∷ 2 ∷ 2 ∷ 3 ∷ 2 ∷ (replicate 14 0
          ++ (1 ∷ 30 ∷ 10 ∷ 0 ∷ 4 ∷ 10 ∷ 2 ∷ 0 ∷ 0 ∷ 20 ∷ 10 ∷ 0 ∷ 3 ∷ 10 ∷ 0 ∷ 1 ∷ replicate 240 0));
    }
    ∷ record {
      computed = write_told (replicate 24 0xFF) 3 eventful;
      by_hand = 0 ∷ 24 ∷ 0xFF ∷ 0xFF ∷ 0xFF ∷ eventful_bytes;
    }
    ∷ record { computed = write_told (replicate 20 0xFF) 0 eventful; by_hand = 16 ∷ replicate 20 0xFF }
    -- version 2 with periodic threads alone keeps its version; version 1 is read as all periodic
    ∷ record { computed = read_told (set eventful_bytes 20 0x00); by_hand = 0 ∷ [] }
    ∷ record { computed = bytes (reading (set eventful_bytes 20 0x00)).table; by_hand = set eventful_bytes 20 0x00 }
    ∷ record {
      computed = written_out (reading example_bytes).table;
      by_hand = 1 ∷ 2 ∷ 2 ∷ 3 ∷ 2 ∷ (replicate 14 0
          ++ (1 ∷ 30 ∷ 10 ∷ 0 ∷ 4 ∷ 10 ∷ 2 ∷ 0 ∷ 0 ∷ 20 ∷ 10 ∷ 0 ∷ 3 ∷ 10 ∷ 0 ∷ 0 ∷ replicate 240 0));
    }
    -- 1 and 10: version 2 without its last kind, with a byte more, and with nothing behind the version
    ∷ record { computed = read_told (take 20 eventful_bytes); by_hand = 1 ∷ 20 ∷ [] }
    ∷ record { computed = read_told (eventful_bytes ++ (0x00 ∷ [])); by_hand = 10 ∷ 21 ∷ [] }
    ∷ record { computed = read_told (0x02 ∷ []); by_hand = 1 ∷ 1 ∷ [] }
    -- 8: a kind of 2, of thread 0 and of thread 1
    ∷ record { computed = read_told (set eventful_bytes 12 0x02); by_hand = 8 ∷ 12 ∷ [] }
    ∷ record { computed = read_told (set eventful_bytes 20 0x02); by_hand = 8 ∷ 20 ∷ [] }
    -- 8 at the kind and not at the offset: an event thread with an offset of 1; the offset alone passes, and one of P is out of its range
    ∷ record { computed = read_told (set eventful_bytes 16 0x01); by_hand = 8 ∷ 20 ∷ [] }
    ∷ record { computed = read_told (set (set eventful_bytes 16 0x01) 20 0x00); by_hand = 0 ∷ [] }
    ∷ record { computed = read_told (set eventful_bytes 16 0x0A); by_hand = 8 ∷ 16 ∷ [] }
    -- eight numbers a thread in version 2 and seven in version 1: with the other version thread 1's domain is 20, its budget 0
    ∷ record { computed = read_told (set example_bytes 0 0x02); by_hand = 8 ∷ 13 ∷ [] }
    ∷ record { computed = read_told (set eventful_bytes 0 0x01); by_hand = 8 ∷ 16 ∷ [] }
    -- legal: version 2 with an event thread, and with none
    ∷ record { computed = map is_legal (eventful ∷ in_version 2 example ∷ []); by_hand = 1 ∷ 1 ∷ [] }
    -- not legal: version 0 and 3, version 1 with an event thread, a kind of 2, an event thread with an offset, an unused place with a kind
    ∷ record {
      computed = map is_legal (in_version 0 example ∷ in_version 3 example ∷ in_version 1 eventful
          ∷ in_version 2 (two 3 2 upper (thread_of (0 ∷ 20 ∷ 10 ∷ 0 ∷ 3 ∷ 10 ∷ 0 ∷ 2 ∷ [])))
          ∷ in_version 2 (two 3 2 upper (thread_of (0 ∷ 20 ∷ 10 ∷ 1 ∷ 3 ∷ 10 ∷ 0 ∷ 1 ∷ [])))
          ∷ in_version 2 (place_too_many (event 0 0 0 0 0 0)) ∷ []);
      by_hand = replicate 6 0;
    }
    -- threads stand in any order; two domains need not flow to one another, and may flow both ways
    ∷ record {
      computed = map is_legal (exchanged ∷ two 1 2 upper lower ∷ both_ways ∷ story ∷ []);
      by_hand = 1 ∷ 1 ∷ 1 ∷ 1 ∷ [];
    }
    -- 16 domains and 32 threads are legal
    ∷ record { computed = is_legal widest ∷ []; by_hand = 1 ∷ [] }
    -- not legal: no domain, no thread, an unused row, an unused place with a blocking share or with a domain
    ∷ record {
      computed = map is_legal (table_of [] (upper ∷ []) ∷ with_threads [] ∷ row_too_many ∷ place_too_many (task 0 0 0 0 0 0 1)
          ∷ place_too_many (task 1 0 0 0 0 0 0) ∷ []);
      by_hand = 0 ∷ 0 ∷ 0 ∷ 0 ∷ 0 ∷ [];
    }
    -- not legal: a row with a bit for a domain that the table lacks, a row that lacks its own, rows that are not transitive
    ∷ record {
      computed = map is_legal (two 7 2 upper lower ∷ two 3 1 upper lower ∷ table_of (3 ∷ 6 ∷ 4 ∷ []) (upper ∷ lower ∷ []) ∷ []);
      by_hand = 0 ∷ 0 ∷ 0 ∷ [];
    }
    -- not legal: a domain of 2, a priority of 256 or taken, a period of 60,001, offset P, budget 0 and P + 1, deadline W - 1 and P + 1, share W + 1
    ∷ record {
      computed = map is_legal (two 3 2 upper (task 2 20 10 0 3 10 0) ∷ two 3 2 upper (task 0 256 10 0 3 10 0) ∷ two 3 2 upper (task 0 30 10 0 3 10 0)
          ∷ two 3 2 upper (task 0 20 60001 0 3 10 0) ∷ two 3 2 upper (task 0 20 10 10 3 10 0) ∷ two 3 2 upper (task 0 20 10 0 0 10 0)
          ∷ two 3 2 upper (task 0 20 10 0 11 10 0) ∷ two 3 2 upper (task 0 20 10 0 3 2 0) ∷ two 3 2 upper (task 0 20 10 0 3 11 0)
          ∷ two 3 2 upper (task 0 20 10 0 3 10 4) ∷ []);
      by_hand = replicate 10 0;
    }
    -- some thread of lower priority, not the next one down only: of three threads of domains 1, 0, 1 with priorities 2, 1, 3 both of domain 1
    ∷ record {
      computed = marks_told (with_threads (task 1 2 10 0 1 10 0 ∷ task 0 1 10 0 1 10 0 ∷ task 1 3 10 0 1 10 0 ∷ []));
      by_hand = 0 ∷ 1 ∷ 100 ∷ 1 ∷ replicate 29 100;
    }
    -- of lower priority only: thread 1 may not flow to thread 0's domain, and stands below it
    ∷ record { computed = marks_told (two 3 2 (task 0 30 10 0 4 10 2) (task 1 20 10 0 3 10 0)); by_hand = 0 ∷ replicate 32 100 }
    -- the mark goes by priority, not by place: E with its threads exchanged
    ∷ record { computed = marks_told exchanged; by_hand = 0 ∷ 100 ∷ 0 ∷ replicate 30 100 }
    -- the first in table order is named, not one above or one that may learn, not the nearest in priority and not the last: for thread 2,
    -- of domain 1 with priority 40, thread 3; thread 0 stands above, thread 1 is of domain 1, thread 4 is nearer and thread 5 behind
    ∷ record {
      computed = marks_told (with_threads (task 0 50 10 0 1 10 0 ∷ task 1 20 10 0 1 10 0 ∷ task 1 40 10 0 1 10 0
          ∷ task 0 10 10 0 1 10 0 ∷ task 0 30 10 0 1 10 0 ∷ task 0 5 10 0 1 10 0 ∷ []));
      by_hand = 0 ∷ 100 ∷ 3 ∷ 3 ∷ replicate 29 100;
    }
    -- from the table's start, and whatever the domains: thread 0 of domain 1 stands before the marked thread 1, thread 2 of domain 0 behind it
    ∷ record {
      computed = marks_told (table_of (7 ∷ 6 ∷ 4 ∷ []) (task 1 10 10 0 1 10 0 ∷ task 2 30 10 0 1 10 0 ∷ task 0 20 10 0 1 10 0 ∷ []));
      by_hand = 0 ∷ 100 ∷ 0 ∷ replicate 30 100;
    }
    -- marks of a table that is not legal: 11 and no marks
    ∷ record { computed = marks_told row_too_many; by_hand = 11 ∷ replicate 32 100 }
    -- E written into 24 bytes from place 3 on: the place after it is 22, and the bytes around it stay
    ∷ record {
      computed = write_told (replicate 24 0xFF) 3 example;
      by_hand = 0 ∷ 22 ∷ 0xFF ∷ 0xFF ∷ 0xFF ∷ (example_bytes ++ (0xFF ∷ 0xFF ∷ []));
    }
    -- and from place 5 on, up to the last byte
    ∷ record { computed = write_told (replicate 24 0xFF) 5 example; by_hand = 0 ∷ 24 ∷ (replicate 5 0xFF ++ example_bytes) }
    -- 16 and the bytes as they were: one byte too few, and a place past the end
    ∷ record { computed = write_told (replicate 18 0xFF) 0 example; by_hand = 16 ∷ replicate 18 0xFF }
    ∷ record { computed = write_told (replicate 24 0xFF) 6 example; by_hand = 16 ∷ replicate 24 0xFF }
    ∷ record { computed = write_told (replicate 24 0xFF) 25 example; by_hand = 16 ∷ replicate 24 0xFF }
    -- 11, and then 16: a table that is not legal, where there is room and where there is none
    ∷ record { computed = write_told (replicate 24 0xFF) 0 row_too_many; by_hand = 11 ∷ replicate 24 0xFF }
    ∷ record { computed = write_told (replicate 2 0xFF) 3 row_too_many; by_hand = 11 ∷ replicate 2 0xFF }
    ∷ []

pub all-bytes : Holds known
unfolding reader-opened writer-opened same all_same
all-bytes = by_numbers known refl
