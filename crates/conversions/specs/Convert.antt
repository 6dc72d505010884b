-- Packing and unpacking, over the form of the input: document 01, "Packer and unpacker".
use Rattle.std.specs.Prelude.{List, ℕ}
use Rattle.stream.specs.declared.Form.{Form}
use Rattle.stream.specs.declared.Form.TheVariants.{Packed, Log}
use Rattle.stream.specs.Output.{Output}
use Rattle.stream.specs.Pack.{pack}
use Rattle.stream.specs.Unpack.{unpack}
use Rattle.stream.specs.Input.{most_words, longest_log}

-- a log is packed to a list, and a packed list is unpacked to a log
abbrev pub convert : Form → ℕ → List ℕ → Output
convert Log = pack
convert Packed = unpack

-- How many words the output has at most. 9: "packed list would pass 8,192 words"; "A list can give up to 16,384 pairs"
abbrev pub longest_output : Form → ℕ
longest_output Log = most_words
longest_output Packed = longest_log
