-- What the program `replay` writes for what it is given: the run of a packed list or of a log on a started engine.
use Rattle.std.specs.Prelude.{cond, List, [], ◌++◌, ◌≡◌, ℕ, eqb, ℤ, length}
use Rattle.std.specs.Prelude.{Option, Some, None}
use Rattle.words.specs.Words.{words_of, over}
use Rattle.stream.specs.declared.Form.{Form}
use Rattle.stream.specs.Input.{is_input}
use Rattle.stream.specs.Feed.{Fed}
use Rattle.state.specs.declared.Core.{Core}
use Rattle.state.specs.Fresh.{start}
use Rattle.polygons.specs.Buffers.{Buffered, buffered}
use Rattle.execute.specs.Call.{machine_of, feed_as}
use Rattle.listing.specs.Text.{ascii, number_line, refused_line}
use Rattle.readout.specs.Readout.{machine_text}

-- ---- a run

-- only after a refusal: its number, and which word or write it was (reading 29)
unfoldable pub refusal_text : ℕ → ℕ → List ℕ
refusal_text number place = cond (eqb number 0) [] (refused_line number place)

-- how many words or writes were taken, the refusal, and the engine as they left it
unfoldable pub fed_text : Fed (Buffered Core) → List ℕ
fed_text f = number_line (ascii "taken ") f.taken ++ refusal_text f.number f.taken ++ machine_text f.left

-- ---- the report, and what the caller's buffers hold behind it

-- the report of a run
abbrev pub ran : Fed (Buffered Core) → Buffered (List ℕ)
ran f = buffered (fed_text f) f.left.state.vertices f.left.state.polygons

-- An engine is started with these rooms; where one is out of range (11), or the input is none (7), that is all that is
-- written
unfoldable pub replay : Form → ℕ → ℕ → List ℕ → List ℤ → List ℕ → Buffered (List ℕ)
replay form vertex_room polygon_room input vertices polygons =
    let refusal : ℕ → Buffered (List ℕ) = λ n. buffered (refused_line n 0) vertices polygons in
    cond (eqb (start vertex_room polygon_room).number 0)
    (cond (is_input form (length input))
    (ran (feed_as form (machine_of (start vertex_room polygon_room).engine vertices polygons) (words_of input)))
    (refusal 7))
    (refusal 11)

-- the line that says how the program is started
unfoldable pub usage : List ℕ
usage = ascii "usage: replay list|log [VERTICES POLYGONS]\n"

unfoldable pub replay_as : Option Form → ℕ → ℕ → List ℕ → List ℤ → List ℕ → Buffered (List ℕ)
replay_as (Some form) = replay form
replay_as None = λ vertex_room polygon_room input vertices polygons. buffered usage vertices polygons

-- What a function promises that writes such a report: r, how many bytes; `old` and `new`, what the text's buffer holds
-- before and after; and what the caller's two buffers hold after
pub record Reports (b : Buffered (List ℕ)) (r : ℕ) (old new : List ℕ) (vertices : List ℤ) (polygons : List ℕ)
    : Type 0 where
  pub count : r ≡ length b.part
  pub text : new ≡ over b.part old
  pub vertices-are : vertices ≡ b.vertices
  pub polygons-are : polygons ≡ b.polygons
