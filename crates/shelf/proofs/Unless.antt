-- What is settled next, where nothing is refused before it and where something is. Assumes nothing.
use Rattle.std.proofs.Common.{◌≡◌, ℕ}
use Rattle.writer.specs.declared.order.Answer.{Answer}
use Rattle.writer.specs.declared.order.Answer.TheVariants.{Taken, Refused}
use Rattle.writer.specs.declared.order.Put.{Put}
use Rattle.shelf.specs.Settled.{Goes, unless}

pub goes_on : {x : Answer} (before : Put) {next q : Put} → x ≡ Taken → q ≡ next → q ≡ unless x before next
unfolding unless
goes_on before t e = rw t e

pub stays : {x : Answer} {before : Put} (next : Put) {n place : ℕ} → x ≡ Refused n place → before ≡ unless x before next
unfolding unless
stays next t = rw t

pub goes : (x : Answer) (before next q : Put) (Says : Put → Type 0) → Goes x Says before q → ((y : Put) → Says y → y ≡ next) → q ≡ unless x before next
unfolding unless
goes Taken before next q Says g only = only q g
goes (Refused n p) before next q Says g only = g
