use native.Mathlib.Omega.{arith}
use Rattle.stream.specs.Read.{list_commands}
use Rattle.stream.specs.Pack.{or_none}
use Rattle.unpacker.proofs.PutLaws.{put_list_start, word_fits, put_list_next}
use Rattle.unpacker.proofs.PutLaws.{put_list_more, put_list_end}
use Rattle.unpacker.proofs.put_list.Goals as goal

pub loop-i-init : goal.loop-i-init
loop-i-init c =
    put_list_start c.args.words.now c.args.buffer.now c.args.place
    (or_none (list_commands c.args.place c.args.words.now)) c.requires.read c.requires.words_in_bounds

pub put_word-requires : goal.put_word-requires
put_word-requires c = word_fits c.loop-i.invariant c.loop-i-test.true

pub loop-i-smaller : goal.loop-i-smaller
loop-i-smaller c =
    let h = c.loop-i-test.true in
    omega (arith, put_list_next c.loop-i.invariant h _ c.put_word.result c.put_word.ensures, h)

pub loop-i-preserved : goal.loop-i-preserved
loop-i-preserved c =
    put_list_more c.loop-i.invariant c.loop-i-test.true _ c.put_word.result c.put_word.ensures

pub returns : goal.returns
returns c = put_list_end c.loop-i.invariant c.loop-i-test.false
