-- Worked by hand, and computed: drawing, one move, the command that stands, each refusal, and the ten steps of the pitch loop's story.
use Rattle.std.specs.Prelude.{ℕ, ◌≡◌, refl, List, [], ◌∷◌, map, ℤ, pos, negsuc, neg_ℤ}
use Rattle.basis.specs.Turns.{in_turn}
use Rattle.basis.specs.Told.{Told, answered, refused}
use Rattle.example.specs.Story.{story}
use Rattle.state.specs.State.{fresh}
use Rattle.scheduler.specs.Taken.{values}
use Rattle.walk.specs.declared.Answer.{Answer}
use Rattle.walk.specs.declared.Answer.TheVariants.{Ran, IdleFor, Idle}
use Rattle.actuator.specs.Motion.{lowest, highest, drawn, distance, moved, start}
use Rattle.actuator.specs.Drive.{Drove, follows}
use Rattle.actuator.specs.Opened.{opened}
use Rattle.actuator.specs.declared.Actuator.{Actuator}

-- -5,001 and the least number of the type are drawn to -5,000, 95,001 and the largest to 95,000; the ends and what is between stay.
pub drawn_low : map drawn (neg_ℤ (pos 5001) ∷ negsuc 9223372036854775807 ∷ []) ≡ lowest ∷ lowest ∷ []
unfolding opened
drawn_low = refl

pub drawn_high : map drawn (pos 95001 ∷ pos 9223372036854775807 ∷ []) ≡ highest ∷ highest ∷ []
unfolding opened
drawn_high = refl

abbrev kept : List ℤ
kept = lowest ∷ negsuc 0 ∷ pos 0 ∷ pos 94999 ∷ highest ∷ []

pub drawn-kept : map drawn kept ≡ kept
unfolding opened
drawn-kept = refl

-- Across 0 the distance from -300 to 200 is 500.
pub across : distance (neg_ℤ (pos 300)) (pos 200) ≡ 500
unfolding opened
across = refl

-- A move up and a move down by the rate, by less than it, and none at the command.
pub moves : moved 250 (neg_ℤ (pos 100)) (pos 900) ∷ moved 250 (pos 100) (neg_ℤ (pos 900)) ∷ moved 250 (pos 100) (pos 300) ∷ moved 250 (pos 100) (neg_ℤ (pos 100))
    ∷ moved 250 (pos 100) (pos 100) ∷ []
    ≡ pos 150 ∷ neg_ℤ (pos 150) ∷ pos 300 ∷ neg_ℤ (pos 100) ∷ pos 100 ∷ []
unfolding opened
moves = refl

-- The actuator at 1,000 whose last command is 2,000, with rate 100 and pitch thread 0.
abbrev moving : Actuator
moving = record { position = pos 1000; command = pos 2000; rate = 100; thread = 0 }

-- What a drive with the command 0 gives after a step that tells this.
abbrev after : Actuator → Told → Drove
after a n = follows story (pos 0) (fresh story) a (record { told = n; state = fresh story })

abbrev gives : Told → ℤ → ℤ → Drove
gives n p c = record { told = n; state = fresh story; actuator = record { position = p; command = c; rate = 100; thread = 0 } }

-- The command is taken if thread 0 runs; not if another runs, if the processor idles on thread 0's account, or if it idles. The
-- position moves each time.
pub taken_or_not : map (λ (n : Answer). after moving (answered (values n))) (Ran 0 ∷ Ran 1 ∷ IdleFor 0 ∷ Idle ∷ [])
    ≡ gives (answered (0 ∷ 0 ∷ [])) (pos 900) (pos 0) ∷ gives (answered (0 ∷ 1 ∷ [])) (pos 1100) (pos 2000)
    ∷ gives (answered (1 ∷ 0 ∷ [])) (pos 1100) (pos 2000) ∷ gives (answered (2 ∷ [])) (pos 1100) (pos 2000) ∷ []
unfolding opened
taken_or_not = refl

-- A refused step keeps its number and moves nothing, even where thread and rate are wrong too.
pub step-first : after (record { position = pos 1000; command = pos 2000; rate = 0; thread = 3 }) (refused 12)
    ≡ record { told = refused 12; state = fresh story; actuator = record { position = pos 1000; command = pos 2000; rate = 0; thread = 3 } }
unfolding opened
step-first = refl

abbrev number : Actuator → ℕ
number a = (after a (answered (2 ∷ []))).told.number

-- 15 for thread 3 of three, before 20; 20 for a rate of 0 or 1,001, and for a position or a stored command one beyond an end.
pub fifteen_first : number (record { position = pos 1000; command = pos 2000; rate = 0; thread = 3 }) ≡ 15
unfolding opened
fifteen_first = refl

pub twenty : map number
    (record { position = pos 1000; command = pos 2000; rate = 0; thread = 0 }
    ∷ record { position = pos 1000; command = pos 2000; rate = 1001; thread = 0 }
    ∷ record { position = neg_ℤ (pos 5001); command = pos 2000; rate = 100; thread = 0 }
    ∷ record { position = pos 95001; command = pos 2000; rate = 100; thread = 0 }
    ∷ record { position = pos 1000; command = neg_ℤ (pos 5001); rate = 100; thread = 0 }
    ∷ record { position = pos 1000; command = pos 95001; rate = 100; thread = 0 } ∷ [])
    ≡ 20 ∷ 20 ∷ 20 ∷ 20 ∷ 20 ∷ 20 ∷ []
unfolding opened
twenty = refl

-- A start position outside the range is kept, as position and as command; the drive gives 20 for it and hands everything back.
abbrev kept_outside : ℤ → Type 0
kept_outside p =
    (start p 100 0 ≡ record { position = p; command = p; rate = 100; thread = 0 })
    × (after (start p 100 0) (answered (2 ∷ []))
    ≡ record { told = refused 20; state = fresh story; actuator = record { position = p; command = p; rate = 100; thread = 0 } })

pub start_outside : kept_outside (pos 95001) × kept_outside (neg_ℤ (pos 5001))
unfolding opened
start_outside = ((refl, refl), (refl, refl))

-- The ends of every range pass.
pub ends_pass : map number
    (record { position = neg_ℤ (pos 5000); command = pos 95000; rate = 1; thread = 2 }
    ∷ record { position = pos 95000; command = neg_ℤ (pos 5000); rate = 1000; thread = 2 } ∷ [])
    ≡ 0 ∷ 0 ∷ []
unfolding opened
ends_pass = refl

-- The positions after each of a list of answers, with the same command number at each.
unfoldable pub along : List Answer → ℤ → Actuator → List ℤ
along ns x a =
    map (λ (r : Drove). r.actuator.position)
    (in_turn (λ (n : Answer) (b : Actuator). follows story x (fresh story) b (record { told = answered (values n); state = fresh story })) (λ (r : Drove). r.actuator) ns a)

-- At first the command is the start position: thread 1's actuator at -300 stays there until thread 1 runs, and then moves by its rate, 7.
pub at_first : along (IdleFor 1 ∷ Idle ∷ Ran 0 ∷ Ran 1 ∷ []) (pos 10000) (start (neg_ℤ (pos 300)) 7 1)
    ≡ neg_ℤ (pos 300) ∷ neg_ℤ (pos 300) ∷ neg_ℤ (pos 300) ∷ neg_ℤ (pos 293) ∷ []
unfolding opened along
at_first = refl

-- The story: the load monitor has the first four steps, the pitch loop runs at 4, 5 and 6, the actuator model at 7 and 8. A command
-- of 10 degrees stands from step 4 on; at 0.25 degrees a step the position is 1.5 degrees after step 9.
pub story_moves : along (Ran 2 ∷ IdleFor 2 ∷ IdleFor 2 ∷ IdleFor 2 ∷ Ran 0 ∷ Ran 0 ∷ Ran 0 ∷ Ran 1 ∷ Ran 1 ∷ Idle ∷ []) (pos 10000) (start (pos 0) 250 0)
    ≡ map pos (0 ∷ 0 ∷ 0 ∷ 0 ∷ 250 ∷ 500 ∷ 750 ∷ 1000 ∷ 1250 ∷ 1500 ∷ [])
unfolding opened along
story_moves = refl
