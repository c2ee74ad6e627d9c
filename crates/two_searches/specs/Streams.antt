-- Streams of replies to searches, how two of them may be merged, what they are answered and what they leave.
-- Demand 3: "take two streams of replies for two searches .., one responder each .. However the streams are merged, each reply is
-- answered as in its own stream alone, and the tables end the same."
-- Answers and ends are over any state and any step, so that one set of words serves the rows and the exported call.
-- Assumes nothing.
use Rattle.std.specs.Prelude.{ℕ, ◌<◌, ◌≡◌, ◌⊎◌, List, [], ◌∷◌, Option}
use Rattle.std.proofs.Common.{inl, inr}
use Rattle.types.specs.declared.Nwk.{Nwk}
use Rattle.standard.specs.declared.RouteReplyDisposition.{RouteReplyDisposition}
use Rattle.standard.specs.Tables.{Tables}
use Rattle.standard.specs.Reply.{Replied, reply}
use Rattle.standard.specs.declared.RouteUpdate.{RouteUpdate}

-- a search: who began it, its request id, and the one responder that the replies of its stream name
pub record Search : Type 0 where
  pub originator : Nwk
  pub id : ℕ
  pub responder : Nwk

-- a reply of a stream: who handed it to us, and at what cost, as a frame carries them: an address of 16 bits and a byte
pub record Heard : Type 0 where
  pub sender : Nwk
  pub cost : ℕ
  pub short : sender.0 < 65536
  pub byte : cost < 256

-- what a reply is answered: what is done with it, and the update that is reported
pub record Answer : Type 0 where
  pub disposition : RouteReplyDisposition
  pub update : Option RouteUpdate

abbrev pub told : Replied → Answer × Tables
told r = (record { disposition = r.disposition; update = r.update }, r.tables)

-- the rule of a route reply as a step: the answer, and the tables after it
unfoldable pub hear : Nwk → Search → Heard → Tables → Answer × Tables
hear own s x t = told (reply own s.originator s.id s.responder x.sender x.cost t)

module _ {S X O : Type 0} (step : X → S → O × S) where
  -- what a stream is answered, one by one, from a state on
  unfoldable pub answers : List X → S → List O
  answers [] s = []
  answers (x ∷ xs) s = (step x s).0 ∷ answers xs (step x s).1

  -- the state that a stream leaves
  unfoldable pub final : List X → S → S
  final [] s = s
  final (x ∷ xs) s = final xs (step x s).1

-- the third list is the first two merged: nothing is lost or added, and each keeps its own order
pub data Merge {X Y : Type 0} : List X → List Y → List (X ⊎ Y) → Type 0 where
  done : Merge [] [] []
  of-first : {x : X} {xs : List X} {ys : List Y} {zs : List (X ⊎ Y)} → Merge xs ys zs → Merge (x ∷ xs) ys (inl x ∷ zs)
  of-second : {y : Y} {xs : List X} {ys : List Y} {zs : List (X ⊎ Y)} → Merge xs ys zs → Merge xs (y ∷ ys) (inr y ∷ zs)

module _ {X Y : Type 0} where
  -- what belongs to the first stream
  unfoldable pub firsts : List (X ⊎ Y) → List X
  firsts [] = []
  firsts (inl x ∷ zs) = x ∷ firsts zs
  firsts (inr y ∷ zs) = firsts zs

  -- and to the second
  unfoldable pub seconds : List (X ⊎ Y) → List Y
  seconds [] = []
  seconds (inl x ∷ zs) = seconds zs
  seconds (inr y ∷ zs) = y ∷ seconds zs

module _ {S X Y O P : Type 0} (f : X → S → O × S) (g : Y → S → P × S) where
  -- the step of a merge: whichever stream is next takes its own
  unfoldable pub either : X ⊎ Y → S → (O ⊎ P) × S
  either (inl x) s = (inl (f x s).0, (f x s).1)
  either (inr y) s = (inr (g y s).0, (g y s).1)

  -- what is promised of a merge zs of xs and ys, from the state s
  pub record AsAlone (xs : List X) (ys : List Y) (zs : List (X ⊎ Y)) (s : S) : Type 0 where
    -- "each reply is answered as in its own stream alone"
    pub first : firsts (answers either zs s) ≡ answers f xs s
    pub second : seconds (answers either zs s) ≡ answers g ys s
    -- "and the tables end the same": as after one stream and then the other, in either order
    pub end : final either zs s ≡ final g ys (final f xs s)
    pub other-end : final either zs s ≡ final f xs (final g ys s)

-- the step of a merge of replies to two searches
abbrev pub hear_both : Nwk → Search → Search → Heard ⊎ Heard → Tables → (Answer ⊎ Answer) × Tables
hear_both own a b = either (hear own a) (hear own b)
