-- What our rules can refuse of the moment header that an old radial gives: its type (20) and bin length (23), by the cut's masks,
-- and its length (24), which is right where the bytes left are those of this moment and the ones behind it. Assumes nothing.
use mathlib.Core.Path.{◌≡◌, refl, sym}
use mathlib.Core.Bool.{true}
use mathlib.Core.List.{List, [], ◌∷◌}
use Prim.Native.Nat.{ℕ, ◌+◌, ◌-◌, ◌*◌, ◌%◌, ◌≤◌, ◌<◌}
use native.Mathlib.Omega.{arith}
use lib.Dec.{lit<}
use lib.IntN.{pos}
use mir.Syntax.{w32}
use borrow.Author.Tests.{le-leb, lt-leb, eq-eqb}
use Rattle.le.specs.Le.{int}
use Rattle.rules.specs.Ranges.{among}
use Rattle.rules.specs.Masks.{type_clauses, bin_length_clauses}
use Rattle.rules.specs.Tiling.{moment_header, least_moment, tiles, length_clauses, length_ok}
use Rattle.rules.specs.Check.{Rule, rule, verdict}
use Rattle.std.specs.Prelude.{Ok}
use Rattle.rules.proofs.Numbers.{inside}
use Rattle.moment.specs.declared.MomentDue.{MomentDue}
use Rattle.moment.specs.Moment.{moment_rules, moment_check}
use Rattle.old.specs.declared.codes.Quantity.{Quantity}
use Rattle.old.specs.Codes.{coding_of}
use Rattle.old.specs.Headers.{moment_from}
use Rattle.old.specs.Old.{most_doppler}
use Rattle.old.proofs.Fitting.{coding-small}
use Rattle.old.proofs.Fewer.{Fewer, done, stays, goes, fewer}

scale-fine : (q : Quantity) (r : ℕ) → among (pos 1) (pos 32768) (int (coding_of q r).scale) ≡ true
scale-fine q r = let c = coding-small q r in sym (inside w32 1 32768 (coding_of q r).scale (lit< tt) (omega arith) (omega arith))

offset-fine : (q : Quantity) (r : ℕ) → among (pos 0) (pos 32768) (int (coding_of q r).offset) ≡ true
offset-fine q r = let c = coding-small q r in sym (inside w32 0 32768 (coding_of q r).offset (lit< tt) (omega arith) (omega arith))

-- the rules that are left for our reading to decide
abbrev pub moment_left : Quantity → ℕ → ℕ → MomentDue → List Rule
moment_left q r g d =
    rule 0 4 20 (type_clauses d.mask d.seen (coding_of q r).data_type)
    ∷ rule 12 2 23 (bin_length_clauses d.sizes (coding_of q r).data_type 2)
    ∷ rule 16 4 24 (length_clauses d.todo d.left 2 (2 * g))
    ∷ []

pub moment-check : (q : Quantity) (r g : ℕ) (d : MomentDue) → moment_check (moment_from q r g) d ≡ verdict (moment_left q r g d)
unfolding moment_check moment_from
moment-check q r g d =
    let f : Fewer (moment_rules (moment_from q r g) d) (moment_left q r g d) =
    stays refl (goes (scale-fine q r) (goes (offset-fine q r) (stays refl (stays refl done)))) in
    fewer f (Ok tt)

-- the length: two bytes a gate, the last moment leaving none and any other 33 for each that follows
module _ (g todo left : ℕ) (some : 0 < g) (few : g ≤ most_doppler) where
  even : 2 * g % 2 ≡ 0
  even = omega arith

  length-ok : tiles todo left (2 * g) ≡ true → length_ok todo left 2 (2 * g) ≡ true
  unfolding length_clauses
  length-ok t =
      let e = sym (inside w32 1 32768 (2 * g) (lit< tt) (omega arith) (omega arith)) in
      rw (e, even, t)

  pub last_fits : todo ≤ 1 → moment_header + 2 * g ≡ left → length_ok todo left 2 (2 * g) ≡ true
  unfolding tiles
  last_fits h e = length-ok (rw (le-leb todo 1 h, eq-eqb (moment_header + 2 * g) left e))

  pub more-fit : 1 < todo → moment_header + 2 * g + least_moment * (todo - 1) ≤ left → length_ok todo left 2 (2 * g) ≡ true
  unfolding tiles
  more-fit h e = length-ok (rw (lt-leb todo 1 h, le-leb (moment_header + 2 * g + least_moment * (todo - 1)) left e))
