-- By the cases and the test of the definition. Assumes nothing.
use mathlib.Core.Bool.{Bool, cond}
use mathlib.Core.Path.{sym, ap, ◌∙◌}
use borrow.Author.Tests.{eq-eqb, ne_eqb}
use Rattle.std.specs.Prelude.{Some}
use Rattle.mend.specs.Kept.{cut_of, kept_of}
use Rattle.mend.proofs.keep.kept_of.Goals as goal

pub returns-in_default : goal.returns-in_default
unfolding kept_of
returns-in_default c = sym (ap (kept_of c.args.before) c.in_default.is)

pub returns-then-s-cut_of : goal.returns-then-s-cut_of
unfolding kept_of
returns-then-s-cut_of c =
    let a = c.args in
    let s = c.in-Some.s in
    sym (ap (kept_of a.before) c.in-Some.is
    ∙ ap (λ (b : Bool). cond b (Some s) a.before) (eq-eqb s.cut (cut_of a.before) (c.if-s-cut_of.true ∙ c.cut_of.ensures)))

pub returns : goal.returns
unfolding kept_of
returns c =
    let a = c.args in
    let s = c.in-Some.s in
    sym (ap (kept_of a.before) c.in-Some.is
    ∙ ap (λ (b : Bool). cond b (Some s) a.before) (ne_eqb s.cut (cut_of a.before) (λ e. c.if-s-cut_of.false (e ∙ sym c.cut_of.ensures))))
