-- `swap`: a table written in the other byte order, with its index.
use Rattle.std.specs.Prelude.{◌≡◌, ℕ, ◌||◌, Bool, List, [], ◌∷◌, Option, Some, None, Ok, if◌then◌else◌}
use Rattle.std.specs.Str.{bytes_eq}
use Rattle.vpf_base.specs.Bytes.{IsBytes}
use Rattle.vpf_source.specs.Files.{Files}
use Rattle.vpf_source.specs.declared.file.File.{File}
use Rattle.vpf_base.specs.declared.orders.Order.{Order}
use Rattle.vpf_base.specs.declared.orders.Order.TheVariants.{Little, Big}
use Rattle.vpf_triplet.specs.declared.places.Part.{Part}
use Rattle.vpf_table.specs.declared.limit.Limit.{Limit}
use Rattle.vpf_table.specs.Canonical.{canonical_table, in_order}
use Rattle.vpf_table.specs.Grid.{Grid}
use Rattle.vpf_table.specs.Limits.{bound_text}
use Rattle.vpf_table.specs.Reading.{table_of}
use Rattle.vpf_write.specs.declared.in_place.Turning.{Turning as TableTurning}
use Rattle.vpf_write.specs.Inner.InPlace.{HasRoom, turned_file}
use Rattle.vpf_write.specs.Writing.{first_limit}
use Rattle.vpf_source.specs.Names.Indexes.{ends_in_x}
use Rattle.vpf_write.specs.Made.Files.{part_name, table_files}
use Rattle.vpf_source.specs.Names.Naming.{file_name}
use Rattle.vpf_replies.specs.declared.verdict.Verdict.TheVariants.{Done}
use Rattle.vpf_replies.specs.Answer.{Answer, limited}
use Rattle.vpf_replies.specs.Found.{on_required_file}
use Rattle.vpf_replies.specs.Making.{made_answer}
use Rattle.vpf_replies.specs.Tables.{on_table}
use Rattle.vpf_replies.specs.Texts.{limit_text}
use Rattle.vpf_table_commands.specs.declared.swapping.SwapRequest.{SwapRequest}
use Rattle.vpf_table_commands.specs.declared.swapping.Plan.{Plan}
use Rattle.vpf_table_commands.specs.declared.swapping.Plan.TheVariants.{Turning, Answered}

-- A table can't be written so: over its own file, or under a name that ends in `x`, which is then its index's name as well.
abbrev pub clashes : List ℕ → List ℕ → Bool
clashes file out = bytes_eq file out || ends_in_x out

-- the request of a file and a name for its table
abbrev pub swap_request_of : Option (List ℕ) → Option (List ℕ) → Option SwapRequest
swap_request_of (Some file) (Some out) = if clashes file out then None else Some (record { file = file; out = out })
swap_request_of file out = None

-- the request that the words after the verb spell
abbrev pub swap_request : List (List ℕ) → Option SwapRequest
swap_request (file ∷ out ∷ []) = swap_request_of (file_name file) (file_name out)
swap_request words = None

-- what is answered where a table is to be written under a name: the limit that it passes, or its files
abbrev pub written_by : List ℕ → Grid → Option (Part × Limit) → Answer
written_by name g (Some stop) = limited (limit_text (bound_text stop.1.what) (part_name name stop.0) stop.1.found)
written_by name g None = made_answer (table_files name g)

abbrev pub written_answer : List ℕ → Grid → Answer
written_answer name g = written_by name g (first_limit g)

-- the other order
abbrev pub other_order : Order → Order
other_order Little = Big
other_order Big = Little

-- the table in the other order
abbrev pub turned : Grid → Grid
turned g = in_order (other_order g.head.order) g

-- the answer over the bytes of a file, whose table is written under another name
abbrev pub swap_bytes_answer : List ℕ → List ℕ → List ℕ → Answer
swap_bytes_answer name out bytes = on_table (λ g. written_answer out (turned g)) name (table_of bytes)

-- the answer over the files of a tree
abbrev pub swap_answer : Files → SwapRequest → Answer
swap_answer files request = on_required_file (swap_bytes_answer request.file request.out) request.file files

-- the one file that is made of bytes that become a table
abbrev pub turned_files : List ℕ → TableTurning → List ℕ → List File
turned_files out turning bytes = record { name = out; bytes = turned_file turning bytes } ∷ []

-- the answer where it is made
abbrev pub turned_answer : List ℕ → TableTurning → List ℕ → Answer
turned_answer out turning bytes = made_answer (turned_files out turning bytes)

-- the plan comes to this answer
abbrev pub IsSwapPlan : List ℕ → List ℕ → Plan → Answer → Type 0
IsSwapPlan out bytes (Turning turning) answer = HasRoom turning bytes × (answer ≡ turned_answer out turning bytes)
IsSwapPlan out bytes (Answered reply) answer = reply ≡ answer

-- Where a table is swapped, and what is made is swapped again, its canonical bytes and its index are made, whatever the names.
abbrev pub SwappedTwiceIsCanonical : Type 0
SwappedTwiceIsCanonical = (bytes : List ℕ) (g : Grid) (name out back : List ℕ) → IsBytes bytes → table_of bytes ≡ Ok g → (swap_bytes_answer name out bytes).verdict ≡ Done
    → (swap_bytes_answer name out bytes ≡ made_answer (table_files out (turned g))) × (swap_bytes_answer out back (canonical_table (turned g)) ≡ made_answer (table_files back g))
