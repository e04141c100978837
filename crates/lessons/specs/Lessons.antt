-- Demand 3 for a class: one rule is changed, and a domain learns what it must not. In each lesson two runs differ in the bytes of
-- threads hidden from a domain only, and the claims compute what that domain is told of each step. In one no rule is changed: whoever
-- makes the masks tells what is hidden. The last one is about windows in a frame.
use Rattle.std.specs.Prelude.{ℕ, zero, suc, ◌+◌, ◌-◌, ◌≡◌, refl, List, [], ◌∷◌, ◌++◌, map, Bool, true, false, not, length, get_or, replicate, eqb, ltb}
use Rattle.basis.specs.Tests.{pick, and, or, every, some}
use Rattle.basis.specs.Search.{Sought, nothing, found, first, listed}
use Rattle.basis.specs.Told.{Told, answered, refused}
use Rattle.basis.specs.Turns.{in_turn}
use Rattle.table.specs.Threads.{thread}
use Rattle.table.specs.Mark.{seen_by, hidden_below, protects, mark, marks_of, is_set}
use Rattle.table.specs.Mark.{Mark}
use Rattle.table.specs.declared.Table.{Table}
use Rattle.table.specs.declared.Thread.{Thread}
use Rattle.example.specs.Example.{table_of, task, event, in_version}
use Rattle.state.specs.State.{with_rest, progress, each_thread, fits, fresh}
use Rattle.state.specs.Release.{has_event, refilled, released, release, releases}
use Rattle.state.specs.Methods.{pay, count}
use Rattle.state.specs.declared.Progress.{Progress}
use Rattle.state.specs.declared.State.{State}
use Rattle.order.specs.Order.{down, order}
use Rattle.walk.specs.Walk.{heard, runs, walked, decided, visit, chosen, walk}
use Rattle.frame.specs.Frame.{no_window}
use Rattle.frame.specs.Mode.{Mode, unframed, framed, threads_at, walks}
use Rattle.walk.specs.Step.{Input, ticked, advance, marks_at, step}
use Rattle.walk.specs.declared.Answer.{Answer}
use Rattle.walk.specs.declared.Answer.TheVariants.{Ran, IdleFor, Idle}
use Rattle.walk.specs.declared.Walked.{Walked}
use Rattle.scheduler.specs.Taken.{Taken, took, refused_step, answer_of, taken}
use Rattle.scheduler.specs.Calls.{quietly}
use Rattle.scheduler.specs.Opened.{opened as steps-opened}
use Rattle.sight.specs.Shown.{visible, view}
use Rattle.sight.specs.Opened.{opened as sight-opened}

-- What a call of the step gives, by the right rules or by others.
abbrev pub Call : Type 0
Call = Table → Input → State → Taken

-- By the right rules, in a mode and without a frame.
abbrev pub right_in : Mode → Call
right_in mode t x s = taken t mode x s

abbrev pub right : Call
right = right_in unframed

-- What each call gives, in turn.
abbrev pub run : (Input → State → Taken) → List Input → State → List Taken
run f a s = in_turn f (λ (r : Taken). r.state) a s

-- What d is told of a call: the number that refuses it, or what d is shown of its answer.
unfoldable pub tells : Table → ℕ → Told → Told
tells t d r = pick (eqb r.number 0) (view t d (answer_of r.values)) r

-- What d is told of each call of a run from a fresh start. To open it is to open all that a run computes with.
unfoldable pub trace : Call → Table → ℕ → List Input → List Told
unfolding steps-opened sight-opened tells
trace f t d a = map (λ (r : Taken). tells t d r.told) (run (f t) a (fresh t))

-- A call with f for the step, of a table that nobody tests: a state that does not fit is refused.
unfoldable pub call : (Table → Input → State → Walked) → Call
call f t x s = pick (fits t s) (took (f t x s)) (refused_step 12 s)

-- The step with other marks.
unfoldable pub marking : (Table → List Mark) → Table → Input → State → Walked
marking m t x s = advance t (m t) (order t) x s

-- The walk with v for the visit, and the step with that walk.
unfoldable pub walk_by : (ℕ → ℕ → State → Walked) → List ℕ → List ℕ → State → Walked
walk_by v bs [] s = walked Idle s
walk_by v bs (i ∷ is) s =
    pick (chosen (v (get_or bs i 0) i s).answer) (v (get_or bs i 0) i s) (walk_by v bs is (v (get_or bs i 0) i s).state)

unfoldable pub visiting : (List Mark → ℕ → ℕ → State → Walked) → Table → Input → State → Walked
visiting v t x s = ticked t (walk_by (v (marks_of t)) x.bytes (order t) (release t x.mask s))

-- With the right visit it is the step.
walk_same : (m : List Mark) (bs is : List ℕ) (s : State) → walk_by (visit m) bs is s ≡ walk m bs is s
unfolding walk_by walk
walk_same m bs [] s = refl
walk_same m bs (i ∷ is) s = rw (walk_same m bs is)

pub visiting-same : (t : Table) (x : Input) (s : State) → visiting visit t x s ≡ step t unframed x s
unfolding visiting step marks_at advance threads_at
visiting-same t x s = rw (walk_same (marks_of t))

-- A thread of a domain, with a priority, a period and a budget; its offset is 0 and its deadline the period.
abbrev plain : ℕ → ℕ → ℕ → ℕ → Thread
plain d p period w = task d p period 0 w period 0

-- Domain 0 may flow to domain 1, which flows to itself only: a private thread above an open one.
abbrev private_above : Table
private_above = table_of (3 ∷ 2 ∷ []) (plain 1 30 4 2 ∷ plain 0 20 4 1 ∷ [])

-- A lesson: the call with one rule changed, a domain of a table, and the bytes of two lists of steps that differ in what is hidden from it.
pub record Lesson : Type 0 where
  pub changed : Call
  pub table : Table
  pub domain : ℕ
  pub one : List (List ℕ)
  pub other : List (List ℕ)

-- What the domain is told of the two runs; no step has an event.
abbrev pub told_by : Call → Lesson → List (List Told)
told_by f l = trace f l.table l.domain (quietly l.one) ∷ trace f l.table l.domain (quietly l.other) ∷ []

abbrev twice : List Told → List (List Told)
twice x = x ∷ x ∷ []

-- It is shown a gap, or thread i.
abbrev pub gap : Told
gap = answered []

abbrev pub shown : ℕ → Told
shown i = answered (i ∷ [])

-- Three steps of two threads: thread 0 runs, or waits, and thread 1 runs.
abbrev running : List (List ℕ)
running = replicate 3 (1 ∷ 1 ∷ [])

abbrev waiting : List (List ℕ)
waiting = replicate 3 (0 ∷ 1 ∷ [])

-- Domain 0, below, and a private thread that runs or waits.
abbrev seen_from_below : Call → Lesson
seen_from_below f = record { changed = f; table = private_above; domain = 0; one = running; other = waiting }

-- a. A pair is missing: domain 0 may flow to 1, and 1 to 2, but 0 not to 2. Thread 0 may flow to thread 1, so it is not marked;
-- its wait shows in when thread 1 runs, and domain 2 sees thread 1. Such a table is refused: here the rules trust it.
abbrev pair_missing : Lesson
pair_missing = record {
  changed = call (λ (t : Table). step t unframed);
  table = table_of (3 ∷ 6 ∷ 4 ∷ []) (plain 0 30 4 2 ∷ plain 1 20 4 1 ∷ []);
  domain = 2;
  one = running;
  other = waiting;
}

pub pair_missing-leaks : told_by pair_missing.changed pair_missing ≡ (gap ∷ gap ∷ shown 1 ∷ []) ∷ (shown 1 ∷ gap ∷ gap ∷ []) ∷ []
unfolding trace call
pair_missing-leaks = refl

-- b. The mark asks about the next thread down only. Thread 0 is above its own domain's thread 1, so it is not marked; where it
-- waits, thread 1 pays in the same step, and thread 2 starts a step sooner.
abbrev barred : Table → ℕ → List ℕ → Sought ℕ
barred t i [] = nothing
barred t i (j ∷ js) = pick (seen_by t i (thread t j).domain) nothing (found j)

unfoldable pub next_marks : Table → List Mark
next_marks t = listed t.count (λ i. mark (barred t i (down t (thread t i).priority)))

abbrev next_only : Lesson
next_only = record {
  changed = call (marking next_marks);
  table = table_of (3 ∷ 2 ∷ []) (plain 1 30 4 1 ∷ plain 1 20 4 1 ∷ plain 0 10 4 1 ∷ []);
  domain = 0;
  one = replicate 3 (1 ∷ 1 ∷ 1 ∷ []);
  other = replicate 3 (0 ∷ 1 ∷ 1 ∷ []);
}

pub next_only-leaks : told_by next_only.changed next_only ≡ (gap ∷ gap ∷ shown 2 ∷ []) ∷ (gap ∷ shown 2 ∷ gap ∷ []) ∷ []
unfolding trace call marking next_marks
next_only-leaks = refl

-- c. The flow is reversed in the mark. Thread 1 may flow to thread 0, so thread 0 is not marked.
unfoldable pub reversed_marks : Table → List Mark
reversed_marks t =
    listed t.count (λ i. mark (first t.count (λ j.
    pick (and (ltb (thread t j).priority (thread t i).priority) (not (seen_by t j (thread t i).domain))) (found j) nothing)))

abbrev flow_reversed : Lesson
flow_reversed = seen_from_below (call (marking reversed_marks))

pub flow_reversed-leaks : told_by flow_reversed.changed flow_reversed ≡ (gap ∷ gap ∷ shown 1 ∷ []) ∷ (shown 1 ∷ gap ∷ gap ∷ []) ∷ []
unfolding trace call marking reversed_marks
flow_reversed-leaks = refl

-- d. A marked thread that waits does not pay. Waiting, thread 0 holds its budget, and thread 1 never starts.
abbrev free : State → ℕ → State
free s i = s

-- The visit, but a thread that waits pays by f if marked, and by g if not.
unfoldable pub paying : (State → ℕ → State) → (State → ℕ → State) → List Mark → ℕ → ℕ → State → Walked
paying f g m b i s =
    let r : State = heard b i s in
    pick (eqb (progress s i).rest 0) (walked Idle s)
    (pick (runs b (progress r i)) (walked (Ran i) (count (pay r i) i))
    (pick (is_set m i) (walked (IdleFor i) (f r i)) (walked Idle (g r i))))

-- Where both pay, it is the visit.
pub paying-same : (m : List Mark) (b i : ℕ) (s : State) → paying pay pay m b i s ≡ visit m b i s
unfolding paying visit decided
paying-same m b i s = refl

abbrev unpaid_wait : Lesson
unpaid_wait = seen_from_below (call (visiting (paying free pay)))

pub unpaid_wait-leaks : told_by unpaid_wait.changed unpaid_wait ≡ (gap ∷ gap ∷ shown 1 ∷ []) ∷ (gap ∷ gap ∷ gap ∷ []) ∷ []
unfolding trace call walk_by visiting paying
unpaid_wait-leaks = refl

-- The same where the processor idles on nobody's account, so that nobody pays.
abbrev nobody : Answer → Answer
nobody (Ran i) = Ran i
nobody (IdleFor i) = Idle
nobody Idle = Idle

unfoldable pub on_nobody : (Table → Input → State → Walked) → Table → Input → State → Walked
on_nobody f t x s = walked (nobody (f t x s).answer) (f t x s).state

abbrev nobody_pays : Lesson
nobody_pays = seen_from_below (call (on_nobody (visiting (paying free pay))))

pub nobody_pays-leaks : told_by nobody_pays.changed nobody_pays ≡ (gap ∷ gap ∷ shown 1 ∷ []) ∷ (gap ∷ gap ∷ gap ∷ []) ∷ []
unfolding trace call walk_by visiting paying on_nobody
nobody_pays-leaks = refl

-- e. No marks: the time of a thread that waits is handed down, and nobody idles. Not a message is sent; who looks for leaks in
-- messages only finds none, and yet thread 1's clock tells domain 0 whether thread 0 waits.
unfoldable pub no_marks : Table → List Mark
no_marks t = []

abbrev handed_down : Lesson
handed_down = seen_from_below (call (marking no_marks))

pub handed_down-leaks : told_by handed_down.changed handed_down ≡ (gap ∷ gap ∷ shown 1 ∷ []) ∷ (shown 1 ∷ gap ∷ gap ∷ []) ∷ []
unfolding trace call marking no_marks
handed_down-leaks = refl

-- f. A release adds W to the rest. Where thread 1 runs, thread 2 keeps its budget of 1 and is given another; a rest of 2 does not fit,
-- and everyone is refused with 12. (`payments-most` shuts this out as well: a thread pays at most W from release to release.)
unfoldable pub refill : Table → ℕ → State → State
refill t mask s =
    each_thread (λ i p. pick (releases t i mask s) (with_rest (p.rest + (thread t i).budget) (refilled (thread t i) p))
    (released (thread t i) s.clock (has_event mask i) p)) t.count s

unfoldable pub refilling : Table → Input → State → Walked
refilling t x s = ticked t (walk (marks_of t) x.bytes (order t) (refill t x.mask s))

abbrev added : Lesson
added = record {
  changed = call refilling;
  table = table_of (3 ∷ 2 ∷ []) (plain 0 30 2 1 ∷ plain 1 20 2 1 ∷ plain 1 10 2 1 ∷ []);
  domain = 0;
  one = replicate 4 (1 ∷ 1 ∷ 1 ∷ []);
  other = replicate 4 (1 ∷ 0 ∷ 1 ∷ []);
}

pub added-leaks : told_by added.changed added ≡ (shown 0 ∷ gap ∷ shown 0 ∷ refused 12 ∷ []) ∷ (shown 0 ∷ gap ∷ shown 0 ∷ gap ∷ []) ∷ []
unfolding trace call refill refilling
added-leaks = refl

-- g. A strange byte is refused. A private thread then stops everyone (`same-refusal` says that no byte's value does).
unfoldable pub refusing_strange : Call
refusing_strange t x s = pick (some t.count (λ i. ltb 2 (get_or x.bytes i 0))) (refused_step 13 s) (right t x s)

abbrev strange_byte : Lesson
strange_byte = record {
  changed = refusing_strange;
  table = private_above;
  domain = 0;
  one = replicate 3 (3 ∷ 1 ∷ []);
  other = waiting;
}

pub strange_byte-leaks : told_by strange_byte.changed strange_byte
    ≡ (refused 13 ∷ refused 13 ∷ refused 13 ∷ []) ∷ (gap ∷ gap ∷ shown 1 ∷ []) ∷ []
unfolding trace refusing_strange
strange_byte-leaks = refl

-- h. A runaway thread is stopped in the wrong way. Thread 0 may run one step of its two, and sends 1 at both; or it waits.
abbrev runaway_above : Table
runaway_above = table_of (3 ∷ 2 ∷ []) (task 1 30 4 0 2 4 1 ∷ plain 0 20 4 1 ∷ [])

-- The visit, but a thread that would run with no execution left is stopped by f.
unfoldable pub stopping : (State → ℕ → Walked) → List Mark → ℕ → ℕ → State → Walked
stopping f m b i s =
    let p : Progress = progress s i in
    pick (and (ltb 0 p.rest) (and (and (eqb b 1) (not p.finished)) (eqb p.execution 0))) (f s i) (visit m b i s)

-- Its time is handed down: it pays, and the walk goes on, so thread 1 starts a step sooner than where thread 0 waits.
abbrev runaway_handed_down : Lesson
runaway_handed_down =
    record { changed = call (visiting (stopping (λ s i. walked Idle (pay s i)))); table = runaway_above; domain = 0; one = running; other = waiting }

pub runaway_handed_down-leaks : told_by runaway_handed_down.changed runaway_handed_down
    ≡ (gap ∷ shown 1 ∷ gap ∷ []) ∷ (gap ∷ gap ∷ shown 1 ∷ []) ∷ []
unfolding trace call walk_by visiting stopping
runaway_handed_down-leaks = refl

-- It does not pay: the processor idles on its account for ever, and thread 1 never starts.
abbrev runaway_unpaid : Lesson
runaway_unpaid =
    record { changed = call (visiting (stopping (λ s i. walked (IdleFor i) s))); table = runaway_above; domain = 0; one = running; other = waiting }

pub runaway_unpaid-leaks : told_by runaway_unpaid.changed runaway_unpaid ≡ (gap ∷ gap ∷ gap ∷ []) ∷ (gap ∷ gap ∷ shown 1 ∷ []) ∷ []
unfolding trace call walk_by visiting stopping
runaway_unpaid-leaks = refl

-- By the right rules the domain is told the same of both runs; the table with a pair missing is refused.
abbrev pub leaks : List Lesson
leaks = pair_missing ∷ next_only ∷ flow_reversed ∷ unpaid_wait ∷ nobody_pays ∷ handed_down ∷ added ∷ strange_byte ∷ runaway_handed_down ∷ runaway_unpaid ∷ []

pub right_rules : map (told_by right) leaks
    ≡ map twice
    ((refused 11 ∷ refused 11 ∷ refused 11 ∷ [])
    ∷ (gap ∷ gap ∷ shown 2 ∷ [])
    ∷ (gap ∷ gap ∷ shown 1 ∷ [])
    ∷ (gap ∷ gap ∷ shown 1 ∷ [])
    ∷ (gap ∷ gap ∷ shown 1 ∷ [])
    ∷ (gap ∷ gap ∷ shown 1 ∷ [])
    ∷ (shown 0 ∷ gap ∷ shown 0 ∷ gap ∷ [])
    ∷ (gap ∷ gap ∷ shown 1 ∷ [])
    ∷ (gap ∷ gap ∷ shown 1 ∷ [])
    ∷ (gap ∷ gap ∷ shown 1 ∷ [])
    ∷ [])
unfolding trace
right_rules = refl

-- Two changes that demand 3 lets pass: a hidden thread above a visible one is marked, so it pays and ends the walk whatever it
-- says, and the other hidden threads hold no visible one up. Demand 2 shuts them out, since it fixes each answer and state. It also
-- shuts out a dropped refill, which no byte moves, and idling on nobody's account where the thread pays, which shows the same gap.

-- A finish is heard from each thread, reached or not; `unheard_nothing` shuts that out too. Thread 1 says finish at the first
-- step, where thread 0 is chosen, and waits at the third: in both runs.
unfoldable pub hear_all : List ℕ → ℕ → State → State
hear_all bs zero s = s
hear_all bs (suc n) s = heard (get_or bs n 0) n (hear_all bs n s)

unfoldable pub hearing_all : Table → Input → State → Walked
hearing_all t x s = ticked t (walk (marks_of t) x.bytes (order t) (hear_all x.bytes t.count (release t x.mask s)))

abbrev heard_unreached : Lesson
heard_unreached = record {
  changed = call hearing_all;
  table = private_above;
  domain = 0;
  one = (1 ∷ 2 ∷ []) ∷ (1 ∷ 1 ∷ []) ∷ (1 ∷ 1 ∷ []) ∷ [];
  other = (2 ∷ 2 ∷ []) ∷ (1 ∷ 1 ∷ []) ∷ (2 ∷ 1 ∷ []) ∷ [];
}

pub heard_unreached-passes : told_by heard_unreached.changed heard_unreached ≡ twice (gap ∷ gap ∷ gap ∷ [])
unfolding trace call hear_all hearing_all
heard_unreached-passes = refl

-- A thread that waits and is not marked does not pay. Thread 0, with a budget of 2, waits one step and runs two: in both runs.
abbrev free_wait : Lesson
free_wait = record {
  changed = call (visiting (paying pay free));
  table = table_of (3 ∷ 2 ∷ []) (plain 0 30 4 2 ∷ plain 1 20 4 1 ∷ []);
  domain = 0;
  one = (0 ∷ 1 ∷ []) ∷ (1 ∷ 1 ∷ []) ∷ (1 ∷ 1 ∷ []) ∷ [];
  other = (0 ∷ 0 ∷ []) ∷ (1 ∷ 0 ∷ []) ∷ (1 ∷ 0 ∷ []) ∷ [];
}

pub free_wait-passes : told_by free_wait.changed free_wait ≡ twice (gap ∷ shown 0 ∷ shown 0 ∷ [])
unfolding trace call walk_by visiting paying
free_wait-passes = refl

abbrev pub passes : List Lesson
passes = heard_unreached ∷ free_wait ∷ []

-- What demand 2 wants instead.
pub right-answers : map (told_by right) passes ≡ map twice ((gap ∷ gap ∷ shown 1 ∷ []) ∷ (gap ∷ shown 0 ∷ gap ∷ []) ∷ [])
unfolding trace
right-answers = refl

-- In every lesson the two runs have the same bytes for each thread that the domain may see.
unfoldable pub differ_hidden : Table → ℕ → List (List ℕ) → List (List ℕ) → Bool
unfolding sight-opened
differ_hidden t d [] [] = true
differ_hidden t d [] (cs ∷ vs) = false
differ_hidden t d (bs ∷ us) [] = false
differ_hidden t d (bs ∷ us) (cs ∷ vs) =
    and (eqb (length bs) (length cs)) (and (every 32 (λ i. or (not (visible t d i)) (eqb (get_or bs i 0) (get_or cs i 0)))) (differ_hidden t d us vs))

pub hidden_only : map (λ (l : Lesson). differ_hidden l.table l.domain l.one l.other) (leaks ++ passes) ≡ replicate 12 true
unfolding differ_hidden
hidden_only = refl

-- i. A mask is made of what a hidden thread's byte decides. No rule is changed, and none could help: the mask is public, so that demand 3
-- takes equal masks in both runs. Thread 1 is released by events, and stands below a private thread.
abbrev woken : Table
woken = in_version 2 (table_of (3 ∷ 2 ∷ []) (plain 1 30 4 2 ∷ event 0 20 4 1 4 0 ∷ []))

-- Steps with these bytes, each with the mask that the environment makes of them.
abbrev made_by : (List ℕ → ℕ) → List (List ℕ) → List Input
made_by e a = map (λ (bs : List ℕ). record { mask = e bs; bytes = bs }) a

-- What domain 0 is told by the right rules where thread 0 runs, and where it waits.
abbrev told_under : (List ℕ → ℕ) → List (List Told)
told_under e = trace right woken 0 (made_by e running) ∷ trace right woken 0 (made_by e waiting) ∷ []

-- An event for thread 1 where thread i sends 1, and none where it does not.
abbrev where_runs : ℕ → List ℕ → ℕ
where_runs i bs = pick (eqb (get_or bs i 0) 1) 2 0

-- An event for thread 1 at every step.
abbrev whatever_comes : List ℕ → ℕ
whatever_comes bs = 2

-- The two runs differ in thread 0's byte only, which domain 0 may not see.
pub woken_hidden_only : differ_hidden woken 0 running waiting ≡ true
unfolding differ_hidden
woken_hidden_only = refl

-- Of the hidden byte: where thread 0 waits no event comes, and thread 1 never starts.
pub hidden_mask_leaks : told_under (where_runs 0) ≡ (gap ∷ gap ∷ shown 1 ∷ []) ∷ (gap ∷ gap ∷ gap ∷ []) ∷ []
unfolding trace
hidden_mask_leaks = refl

-- Of nothing that a thread sends, or of the byte of thread 1, which every domain may see: the masks are equal, and so is what is told.
pub public_mask_same : map told_under (whatever_comes ∷ where_runs 1 ∷ []) ≡ replicate 2 (twice (gap ∷ gap ∷ shown 1 ∷ []))
unfolding trace
public_mask_same = refl

-- j. In a window of a frame the marks are taken over its threads only. Threads 0 and 1 are of domain 2, thread 2 of domain 1, and domain 0 may flow to
-- all: one step of domain 2, in which threads 0 and 1 are walked, then nine of domain 0, in which all are.
abbrev across : Table
across = table_of (7 ∷ 2 ∷ 4 ∷ []) (plain 2 30 10 1 ∷ plain 2 20 10 1 ∷ plain 1 10 10 1 ∷ [])

abbrev two_windows : Mode
two_windows = framed (record { count = 2; windows = record { domain = 2; length = 1 } ∷ record { domain = 0; length = 9 } ∷ replicate 62 no_window })

-- A thread is marked for another only if that one is walked at the clock c; and the step with such marks.
unfoldable pub window_marks : Table → Mode → ℕ → List Mark
window_marks t mode c =
    listed t.count (λ i. mark (first t.count (λ j. pick (and (walks t mode c j) (hidden_below t i j)) (found j) nothing)))
    ++ replicate (32 - t.count) (mark nothing)

unfoldable pub marking_window : Mode → Table → Input → State → Walked
marking_window mode t x s = advance t (window_marks t mode s.clock) (threads_at t mode s.clock) x s

-- Without a frame it is the step: every thread is walked.
pub marking_window-same : (t : Table) (x : Input) (s : State) → marking_window unframed t x s ≡ step t unframed x s
unfolding marking_window window_marks step marks_at marks_of protects walks
marking_window-same t x s = refl

abbrev window_marks_only : Lesson
window_marks_only = record {
  changed = call (marking_window two_windows);
  table = across;
  domain = 1;
  one = replicate 3 (1 ∷ 1 ∷ 1 ∷ []);
  other = replicate 3 (0 ∷ 1 ∷ 1 ∷ []);
}

-- At clock 0 all that are walked may learn of thread 0's wait, so it is not marked there: thread 1 runs in its place, and thread 2 starts a step sooner.
pub window_marks-leaks : told_by window_marks_only.changed window_marks_only ≡ (gap ∷ gap ∷ shown 2 ∷ []) ∷ (gap ∷ shown 2 ∷ gap ∷ []) ∷ []
unfolding trace call marking_window window_marks
window_marks-leaks = refl

-- By the right rules in the same frame thread 0 is marked for thread 2 there, and domain 1 is told the same of both runs.
pub window_right_rules : told_by (right_in two_windows) window_marks_only ≡ twice (gap ∷ gap ∷ shown 2 ∷ [])
unfolding trace
window_right_rules = refl

-- They differ in thread 0's byte only, which domain 1 may not see.
pub window_hidden_only : differ_hidden window_marks_only.table 1 window_marks_only.one window_marks_only.other ≡ true
unfolding differ_hidden
window_hidden_only = refl
