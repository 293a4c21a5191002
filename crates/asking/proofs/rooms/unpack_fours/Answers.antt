use borrow.Author.Rules.{rules}
use lib.ListN.{length}
use Rattle.asking.proofs.Unpacked.{unpacked}
use Rattle.asking.proofs.rooms.unpack_fours.Goals as goal

pub returns : goal.returns
returns c = unpacked 4 (length c.args.room.now) c.args.bytes.now c.unpack.new.room c.unpack.auto.room (λ i h. let e = c.unpack.ensures i 0 h in search rules)
