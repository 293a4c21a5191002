-- What `import` returns and leaves, in each of its three ends, is the import as it is defined. Assumes nothing.
use Rattle.std.proofs.Common.{◌≡◌, ℕ, ◌+◌, ◌≤◌, Bool, true, false, cond, not, List, ◌++◌, length, sym, refl, ap, ◌∙◌, ap₂}
use mathlib.Core.Path.{subst⁻¹}
use Rattle.le.specs.Le.{Bytes, patch}
use Rattle.generic.specs.declared.Generic.{Generic}
use Rattle.generic.specs.Generic.{generic_bytes, GenericFits}
use Rattle.site.specs.declared.Site.{Site}
use Rattle.site.specs.Site.{site_bytes, SiteFits}
use Rattle.task.specs.declared.Task.{Task}
use Rattle.task.specs.Task.{task_bytes, TaskFits}
use Rattle.walk.specs.declared.due.Walk.{Walk}
use Rattle.walk.specs.Due.{at_start, cut_place}
use Rattle.writer.specs.declared.order.Answer.{Answer}
use Rattle.writer.specs.declared.order.Answer.TheVariants.{Taken, Refused}
use Rattle.writer.specs.declared.order.Put.{Put}
use Rattle.writer.specs.Put.{Outcome, Puts, told_answer}
use Rattle.old.specs.Shelf.{shelf_ok, radials_in}
use Rattle.shelf.specs.Import.{refused_whole, all_or_nothing, through, import_of}
use Rattle.shelf.specs.Settled.{settle_ours, settle_first, lay_first}
use Rattle.shelf.proofs.Imported.{Imported, imported}

off-if : (x : Bool) → not x ≡ true → x ≡ false
off-if true e = sym e
off-if false e = refl

on-if : (x : Bool) → not x ≡ false → x ≡ true
on-if true e = refl
on-if false e = sym e

module _ (g : Generic) (s : Site) (t : Task) (c f room : List ℕ) where
  -- a state that is begun anew, and a refusal
  refuses : (n at : ℕ) {o : Outcome} {p : Put} {w : Walk} → o ≡ refused_whole n at room → p ≡ record { answer = Refused n at; walk = w } → w ≡ at_start → Puts o p room
  refuses n at {p = q} o p w =
      subst⁻¹ (λ (x : Outcome). Puts x q room) o
      (record { answer = ap (λ (x : Put). told_answer x.answer) p; walk = ap (λ (x : Put). x.walk) p ∙ w; room = refl })

  pub wrong-length : {ok : Bool} {p : Put} {w : Walk} → ok ≡ shelf_ok (length f) → not ok ≡ true
      → p ≡ record { answer = Refused 50 0; walk = w } → w ≡ at_start → Puts (import_of g s t c f room) p room
  unfolding import_of
  wrong-length e off p w =
      refuses 50 0
      (ap (λ (x : Bool). cond x (all_or_nothing (through g s t c f room).answer (through g s t c f room) room) (refused_whole 50 0 room)) (sym e ∙ off-if _ off)) p w

  -- what is known once everything is settled
  pub record Known (ok : Bool) (first last : Put) : Type 0 where
    pub generic : GenericFits g
    pub site : SiteFits s
    pub task : TaskFits t
    pub cuts : Bytes c
    pub old : Bytes f
    pub asked : ok ≡ shelf_ok (length f)
    pub right : not ok ≡ false
    pub ours : first ≡ settle_ours g s t c (length room)
    pub all : last ≡ settle_first (radials_in (length f)) c f (length room) first

module _ {g : Generic} {s : Site} {t : Task} {c f room : List ℕ} {ok : Bool} {first last : Put} (k : Known g s t c f room ok first last) where
  done : Imported g s t c f room k.generic k.site k.task k.cuts k.old
  done = imported g s t c f room k.generic k.site k.task k.cuts k.old

  last-is : last ≡ record { answer = (through g s t c f room).answer; walk = (through g s t c f room).walk }
  last-is = k.all ∙ ap (settle_first (radials_in (length f)) c f (length room)) k.ours ∙ sym done.settles

  taken_is : last.answer ≡ Taken → (through g s t c f room).answer ≡ Taken
  taken_is e = ap (λ (p : Put). p.answer) (sym last-is) ∙ e

  import-is : {x : Answer} → last.answer ≡ x → import_of g s t c f room ≡ all_or_nothing x (through g s t c f room) room
  unfolding import_of
  import-is e =
      ap (λ (y : Bool). cond y (all_or_nothing (through g s t c f room).answer (through g s t c f room) room) (refused_whole 50 0 room)) (sym k.asked ∙ on-if ok k.right)
      ∙ ap (λ (y : Answer). all_or_nothing y (through g s t c f room) room) (ap (λ (p : Put). p.answer) (sym last-is) ∙ e)

  pub enough-room : last.answer ≡ Taken → cut_place 1 + length c ≤ length room
  enough-room e = done.suffices (taken_is e)

  pub refused-whole : (n at : ℕ) {p : Put} {w : Walk} → last.answer ≡ Refused n at → p ≡ record { answer = Refused n at; walk = w } → w ≡ at_start → Puts (import_of g s t c f room) p room
  unfolding all_or_nothing
  refused-whole n at e p w = refuses g s t c f room n at (import-is e) p w

  pub laid-whole : {mid held : List ℕ} → last.answer ≡ Taken → mid ≡ patch room 0 (generic_bytes g ++ site_bytes s ++ task_bytes t ++ c)
      → held ≡ (lay_first (radials_in (length f)) c f (record { walk = first.walk; room = mid })).room → Puts (import_of g s t c f room) last held
  unfolding all_or_nothing
  laid-whole {held = held} e m h =
      subst⁻¹ (λ (x : Outcome). Puts x last held) (import-is e)
      (record {
        answer = ap (λ (p : Put). told_answer p.answer) last-is;
        walk = ap (λ (p : Put). p.walk) last-is;
        room =
            h
            ∙ ap₂ (λ (p : Put) (x : List ℕ). (lay_first (radials_in (length f)) c f (record { walk = p.walk; room = x })).room) k.ours m
            ∙ done.laid (taken_is e);
      })
