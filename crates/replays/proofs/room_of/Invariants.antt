use Rattle.std.proofs.Common.{◌≡◌, ◌<◌, drop}
use Prim.Native.Nat.{◌^◌}
use Rattle.replays.specs.Arguments.{room_of}
use Rattle.replays.proofs.ArgumentLaws.{room_from}
use Rattle.replays.proofs.room_of.Given as goal

-- the digits passed stand for `room`, and the rest is read from there on
abbrev pub invariant-loop-digit : goal.invariant-loop-digit
invariant-loop-digit l =
    record {
      small : l.room < 10 ^ l.digit-index;
      rest : room_of l.digits ≡ room_from l.room (drop l.digit-index l.digits);
    }
