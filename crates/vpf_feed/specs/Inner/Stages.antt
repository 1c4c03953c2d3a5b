-- What contracts see of a feed.
use Rattle.std.specs.Prelude.{◌≡◌, ℕ, ◌+◌, ◌<◌, ◌≤◌, List, [], ◌++◌, length, Result, Ok, Err}
use Rattle.vpf_triplet.specs.declared.places.Place.{Place}
use Rattle.vpf_triplet.specs.declared.places.PlaceError.{PlaceError}
use Rattle.vpf_triplet.specs.declared.places.PlaceError.TheVariants as errors
use Rattle.vpf_triplet.specs.declared.places.Code.TheVariants as codes
use Rattle.vpf_triplet.specs.Places.{fault}
use Rattle.vpf_head.specs.Reading.{header_of}
use Rattle.vpf_table.specs.Reading.{table_of}
use Rattle.vpf_feed.specs.Inner.Staying.Staying.{order_bytes, MayGoOn}
use Rattle.vpf_feed.specs.Inner.RowForm.Rows.{IsForm}
use Rattle.vpf_feed.specs.declared.heading.Rows.{Rows}
use Rattle.vpf_feed.specs.declared.heading.Headed.{Headed}
use Rattle.vpf_feed.specs.declared.heading.Headed.TheVariants as headed
use Rattle.vpf_feed.specs.declared.stage.Stage.{Stage}
use Rattle.vpf_feed.specs.declared.stage.Stage.TheVariants as stages
use Rattle.vpf_feed.specs.Inner.Progress as progress
use Rattle.vpf_feed.specs.Inner.Progress.{FeedProgress, Hand, RowsSoFar, summed, comes_to}
use Rattle.vpf_feed.specs.Inner.Walks.{so_far, IsWalk}

-- the most bytes of a length number and a header text
abbrev pub most_head : ℕ
most_head = 65540

-- the rows so far
abbrev pub came_of : Rows → FeedProgress
came_of r = progress.rows (so_far r.form r.columns r.walk)

-- what came of a table
abbrev pub progress_of : Stage → FeedProgress
progress_of (stages.Header text) = progress.header text.items
progress_of (stages.Rows r) = came_of r
progress_of (stages.Refused place) = progress.refused place

-- a header that isn't whole
pub record IsWaiting (text : List ℕ) : Type 0 where
  pub few : length text < most_head
  pub cut : order_bytes ≤ length text → header_of text ≡ Err (fault 4 codes.HeaderCut)

-- rows of a form
pub record AreSoundRows (r : Rows) : Type 0 where
  pub form : IsForm r.form
  pub walk : IsWalk r.form r.walk

-- what is true of each feed
abbrev pub IsStage : Stage → Type 0
IsStage (stages.Header text) = IsWaiting text.items
IsStage (stages.Rows r) = AreSoundRows r
IsStage (stages.Refused place) = Unit {0}

-- how many bytes came, where that is seen
abbrev pub Came : FeedProgress → ℕ → Type 0
Came (progress.header text) n = length text ≡ n
Came (progress.rows s) n = s.here ≡ n
Came (progress.refused place) n = Unit {0}

-- These bytes were fed: whatever follows, what came comes to what the whole is.
pub record HoldsFed (p : FeedProgress) (fed : List ℕ) : Type 0 where
  pub comes : (more : List ℕ) → comes_to p more ≡ summed (table_of (fed ++ more))
  pub came : Came p (length fed)

-- a table, or it ends too early
abbrev pub MayBe : {X : Type 0} → Result X Place → Type 0
MayBe (Ok x) = Unit {0}
MayBe (Err place) = MayGoOn place

-- it isn't refused: what came is a table, or ends too early, once its order is told
abbrev pub IsUnrefused : FeedProgress → Type 0
IsUnrefused (progress.header text) = order_bytes ≤ length text → MayBe (comes_to (progress.header text) [])
IsUnrefused (progress.rows s) = MayBe (comes_to (progress.rows s) [])
IsUnrefused (progress.refused place) = ⊥

-- A piece was taken, or the table is refused; where memory ran out, nothing has changed.
abbrev pub Took : {U : Type 0} → FeedProgress → FeedProgress → List ℕ → Result U PlaceError → Type 0
Took old new piece (Ok done) = ((more : List ℕ) → comes_to new more ≡ comes_to old (piece ++ more)) × ((n : ℕ) → Came old n → Came new (n + length piece)) × IsUnrefused new
Took old new piece (Err (errors.Place place)) = (new ≡ progress.refused place) × ((more : List ℕ) → comes_to old (piece ++ more) ≡ Err place)
Took old new piece (Err errors.NoMemory) = new ≡ old

-- a piece came to rows
pub record RowsTook (old new : Rows) (piece : List ℕ) : Type 0 where
  pub comes : (more : List ℕ) → comes_to (came_of new) more ≡ comes_to (came_of old) (piece ++ more)
  pub here : new.walk.here ≡ old.walk.here + length piece

-- unless memory ran out
abbrev pub Unless : {U : Type 0} → Result U PlaceError → Type 0 → Type 0
Unless (Ok done) P = P
Unless (Err (errors.Place place)) P = P
Unless (Err errors.NoMemory) P = Unit {0}

-- where memory ran out
abbrev pub OnNoMemory : {U : Type 0} → Result U PlaceError → Type 0 → Type 0
OnNoMemory (Ok done) P = Unit {0}
OnNoMemory (Err (errors.Place place)) P = Unit {0}
OnNoMemory (Err errors.NoMemory) P = P

-- what came of a text and what follows it: the whole is that
abbrev pub IsHeaded : List ℕ → List ℕ → Headed → Type 0
IsHeaded text rest headed.Waits = (rest ≡ []) × IsWaiting text
IsHeaded text rest (headed.Rows r) = ((more : List ℕ) → comes_to (came_of r) more ≡ summed (table_of ((text ++ rest) ++ more))) × (r.walk.here ≡ length text + length rest) × AreSoundRows r
IsHeaded text rest (headed.Refused place) = (more : List ℕ) → summed (table_of ((text ++ rest) ++ more)) ≡ Err place

-- a piece came to this text
abbrev pub IsFed : List ℕ → List ℕ → List ℕ → Headed → Type 0
IsFed old piece new headed.Waits = (new ≡ old ++ piece) × IsWaiting new
IsFed old piece new (headed.Rows r) = ((more : List ℕ) → comes_to (came_of r) more ≡ summed (table_of ((old ++ piece) ++ more))) × (r.walk.here ≡ length old + length piece) × AreSoundRows r
IsFed old piece new (headed.Refused place) = (more : List ℕ) → summed (table_of ((old ++ piece) ++ more)) ≡ Err place

-- how many bytes of the input are kept: of a header all, of a cell those that may tell its length
abbrev pub held_hand : Hand → ℕ
held_hand progress.between = 0
held_hand (progress.within kept) = length kept
held_hand (progress.skipping past) = 0

abbrev pub held_len : FeedProgress → ℕ
held_len (progress.header text) = length text
held_len (progress.rows s) = held_hand s.hand
held_len (progress.refused place) = 0
