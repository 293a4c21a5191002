-- A file's index has as many bytes as it has, and each entry stands. Assumes nothing.
use Prim.Native.Nat.{ℕ}
use mathlib.Core.Bool.{false}
use mathlib.Core.List.{List}
use mathlib.Core.Path.{◌≡◌, sym, ap, ◌∙◌}
use native.Mathlib.Omega.{arith}
use borrow.Author.Tests.{lt-leb}
use lib.ListN.{length}
use Rattle.index.specs.Index.{index_of}
use Rattle.index.specs.Answer.{same, right_for}
use Rattle.index.proofs.Layouts.{Laid, says}
use Rattle.index.proofs.Same.{not_same}
use Rattle.index.proofs.right.Goals as goal

other_length : (x y : List ℕ) → (length x ≡ length y → ⊥) → same x y ≡ false
other_length x y n = not_same x y (λ e. n (ap length e))

fits : (c : goal.Then-index-size) → let a = c.args in
    Laid a.file.now (length a.index.now) c.in-Fits.cuts c.in-Fits.radials c.in-Fits.size
fits c = says _ _ _ (sym c.layout_of.ensures ∙ c.in-Fits.is)

pub stands-requires : goal.stands-requires
stands-requires c =
    let f = fits c in
    let l = f.long in
    let h = f.room in
    record { cuts_value = f.said; radials_value = f.count; index_len = rw f.index (omega arith) }

fits-2 : (c : goal.After-stands) → let a = c.args in
    Laid a.file.now (length a.index.now) c.in-Fits.cuts c.in-Fits.radials c.in-Fits.size
fits-2 c = says _ _ _ (sym c.layout_of.ensures ∙ c.in-Fits.is)

pub returns-then-index-size : goal.returns-then-index-size
unfolding right_for
returns-then-index-size c = let f = fits-2 c in c.stands.ensures ∙ rw (f.index, f.whole)

fits-3 : (c : goal.Else-index-size) → let a = c.args in
    Laid a.file.now (length a.index.now) c.in-Fits.cuts c.in-Fits.radials c.in-Fits.size
fits-3 c = says _ _ _ (sym c.layout_of.ensures ∙ c.in-Fits.is)

pub returns-else-index-size : goal.returns-else-index-size
unfolding right_for
returns-else-index-size c =
    let a = c.args in
    let f = fits-3 c in
    let l = f.long in
    let h = c.if-index-size.false in
    rw (lt-leb _ _ h, f.whole) (sym (other_length (index_of a.file.now) a.index.now (λ e. omega arith)))

pub returns-in-Short : goal.returns-in-Short
unfolding right_for
returns-in-Short c =
    let a = c.args in
    let s = says a.file.now (length a.index.now) _ (sym c.layout_of.ensures ∙ c.in-Short.is) in
    let h = s.1 in
    rw s.0 (sym (other_length (index_of a.file.now) a.index.now (λ e. omega arith)))

pub returns-in-Unfinished : goal.returns-in-Unfinished
unfolding right_for
returns-in-Unfinished c =
    let a = c.args in
    rw (says a.file.now (length a.index.now) _ (sym c.layout_of.ensures ∙ c.in-Unfinished.is))
