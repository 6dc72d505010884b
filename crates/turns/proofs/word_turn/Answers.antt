use mathlib.Core.Bool.{false}
use mathlib.Core.Path.{◌≡◌, sym, ap, ◌∙◌}
use Prim.Native.Nat.{◌%◌, ◌^◌, ◌<◌}
use native.Mathlib.Omega.{arith}
use lib.ListN.{length, get_or}
use Rattle.commands.specs.Commands.{known, command_bytes, hole}
use Rattle.turns.proofs.TurnLaws.{due-idle, turned_ended}
use Rattle.turns.proofs.WordTurn.{word-port, word-dummy, word-hole, word-word}
use Rattle.turns.proofs.word_turn.Goals as goal
use Rattle.turns.proofs.word_turn.Goals.{After-has_hole, Else-is_known, Else-words-i}

-- no command is queued
unknown : (c : Else-is_known) → known (c.args.b.queue % 256) ≡ false
unknown c = sym c.is_known.ensures ∙ c.if-is_known.false

-- and there is a word
inside : (c : Else-words-i) → c.args.i < length c.args.words.now
inside c = omega (arith, c.if-words-i.false)

pub returns-then-words-i : goal.returns-then-words-i
returns-then-words-i c =
    let at = goal.at.returns-then-words-i c in
    rw c.ends.ensures
    (turned_ended c.requires.fit.0 (due-idle c.args.b (unknown at.Else-is_known) c.requires.fit.0) c.requires.fit.1
    c.if-words-i.true)

pub returns-then-b-ne0 : goal.returns-then-b-ne0
returns-then-b-ne0 c =
    let at = goal.at.returns-then-b-ne0 c in
    rw c.ends-then-b-ne0.ensures
    (word-port _ _ _ _ c.requires.fit.0 (unknown at.Else-is_known) (inside at.Else-words-i) c.if-b-ne0.true)

pub returns-then-b : goal.returns-then-b
returns-then-b c =
    let at = goal.at.returns-then-b c in
    word-dummy _ _ _ _ c.requires.fit.0 (unknown at.Else-is_known) (inside at.Else-words-i) c.if-b-ne0.false c.if-b.true

-- the word has a hole, or not
holed : (c : After-has_hole) → c.has_hole.result ≡ hole (command_bytes (get_or c.args.words.now c.args.i 0))
holed c = c.has_hole.ensures ∙ ap hole c.command_bytes.ensures

pub returns-then-has_hole : goal.returns-then-has_hole
returns-then-has_hole c =
    let at = goal.at.returns-then-has_hole c in
    rw c.ends-then-has_hole.ensures
    (word-hole _ _ _ _ c.requires.fit.0 (unknown at.Else-is_known) (inside at.Else-words-i) c.if-b-ne0.false c.if-b.false
    (sym (holed at.After-has_hole) ∙ c.if-has_hole.true))

pub returns : goal.returns
returns c =
    let at = goal.at.returns c in
    let fits : get_or c.args.words.now c.args.i 0 < 2 ^ 32 = omega (arith, c.type_inv.words c.args.i) in
    word-word _ _ _ _ c.requires.fit.0 (unknown at.Else-is_known) (inside at.Else-words-i) c.if-b-ne0.false c.if-b.false
    fits (sym (holed at.After-has_hole) ∙ c.if-has_hole.false)
