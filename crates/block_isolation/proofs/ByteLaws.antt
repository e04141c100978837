-- A byte of the trace shows a domain what its answer does, and parts of a record show what those parts show.
use Prim.Native.Nat.{ℕ, zero, suc, ◌+◌, ◌≤◌}
use native.Mathlib.Omega.{arith}
use mathlib.Core.Path.{◌≡◌, refl, sym, ◌∙◌, ap}
use mathlib.Core.List.{List, [], ◌∷◌, ◌++◌, map-append}
use mathlib.Core.Bool.{false}
use lib.ListN.{length, take, drop, length-map}
use borrow.Author.Tests.{le-ltb}
use Rattle.basis.specs.Told.{Told}
use Rattle.table.specs.declared.Table.{Table}
use Rattle.walk.specs.declared.Answer.{Answer}
use Rattle.walk.specs.declared.Answer.TheVariants.{Ran, IdleFor, Idle}
use Rattle.sight.specs.Shown.{visible, view}
use Rattle.sight.proofs.SightLaws.{unseen_gap, idle-gap, nobody-gap}
use Rattle.block.specs.Block.{trace}
use Rattle.block_isolation.specs.Shown.{byte_shown, record_shown}

module _ (t : Table) (d : ℕ) where
  -- A number that is no thread of the table is not seen.
  no_thread : (b : ℕ) → t.count ≤ b → visible t d b ≡ false
  unfolding visible
  no_thread b h = rw (le-ltb b t.count h)

  pub byte-answer : t.count ≤ 32 → (a : Answer) → byte_shown t d (trace a) ≡ view t d a
  unfolding byte_shown
  byte-answer h (Ran i) = refl
  byte-answer h (IdleFor i) = unseen_gap t d (32 + i) (no_thread (32 + i) (omega arith)) ∙ sym (idle-gap t d i)
  byte-answer h Idle = unseen_gap t d 255 (no_thread 255 (omega arith)) ∙ sym (nobody-gap t d)

  pub shown-append : (xs ys : List ℕ) → record_shown t d (xs ++ ys) ≡ record_shown t d xs ++ record_shown t d ys
  unfolding record_shown
  shown-append xs ys = map-append (byte_shown t d) xs ys

  pub shown-take : (n : ℕ) (xs : List ℕ) → record_shown t d (take n xs) ≡ take n (record_shown t d xs)
  unfolding record_shown
  shown-take zero xs = refl
  shown-take (suc n) [] = refl
  shown-take (suc n) (x ∷ xs) = ap (λ (l : List Told). byte_shown t d x ∷ l) (shown-take n xs)

  pub shown-drop : (n : ℕ) (xs : List ℕ) → record_shown t d (drop n xs) ≡ drop n (record_shown t d xs)
  unfolding record_shown
  shown-drop zero xs = refl
  shown-drop (suc n) [] = refl
  shown-drop (suc n) (x ∷ xs) = shown-drop n xs

  -- Records that show the same are as long.
  pub shown_long : (xs ys : List ℕ) → record_shown t d xs ≡ record_shown t d ys → length xs ≡ length ys
  unfolding record_shown
  shown_long xs ys e = sym (length-map xs (byte_shown t d)) ∙ ap (λ (l : List Told). length l) e ∙ length-map ys (byte_shown t d)
