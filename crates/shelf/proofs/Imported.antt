-- The import as it is gone about is the import as it is defined: what is settled with nothing stored is what the writer answers, and
-- what is then laid down is what the writer leaves. Assumes nothing.
use Rattle.std.proofs.Common.{◌≡◌, ℕ, zero, suc, ◌+◌, ◌≤◌, List, [], ◌++◌, length, sym, refl, ap, ◌∙◌, ap₂, append-nil, arith, length-append}
use Rattle.le.specs.Le.{Bytes, patch}
use Rattle.generic.specs.declared.Generic.{Generic}
use Rattle.generic.specs.Generic.{generic_bytes, GenericFits}
use Rattle.generic.proofs.Trips as generic-trip
use Rattle.site.specs.declared.Site.{Site}
use Rattle.site.specs.Site.{site_bytes, SiteFits}
use Rattle.site.proofs.Trips as site-trip
use Rattle.task.specs.declared.Task.{Task}
use Rattle.task.specs.Task.{task_bytes, TaskFits}
use Rattle.task.proofs.Trips as task-trip
use Rattle.walk.specs.Due.{cut_place}
use Rattle.writer.specs.declared.order.Answer.TheVariants.{Taken}
use Rattle.writer.specs.declared.order.Put.{Put}
use Rattle.writer.specs.Put.{Outcome}
use Rattle.writer.proofs.Places.{behind}
use Rattle.old.specs.Old.{old_at}
use Rattle.old.specs.Shelf.{radials_in, radial_place}
use Rattle.retold.specs.Many.{written_in}
use Rattle.shelf.specs.Import.{take_first, ours, through}
use Rattle.shelf.specs.Settled.{settle_over, settle_first, settle_ours, Lay, lay_over, lay_first}
use Rattle.shelf.proofs.Ours.{ours-settle, ours-taken}
use Rattle.shelf.proofs.Over.{Standing, over-settles, over-taking, over-standing, over-laid}
use Rattle.shelf.proofs.Settling.{put_of}

-- what an outcome leaves to be laid upon
abbrev lay_of : Outcome → Lay
lay_of o = record { walk = o.walk; room = o.room }

-- ---- the radials, from a state on

module _ (c f : List ℕ) (bytes : Bytes f) (o : Outcome) (h : o.answer ≡ Taken → Standing c o) where
  pub record Radials (k : ℕ) : Type 0 where
    pub settles : put_of (take_first k f o) ≡ settle_first k c f (length o.room) (put_of o)
    pub long : length (take_first k f o).room ≡ length o.room
    pub begun : (take_first k f o).answer ≡ Taken → o.answer ≡ Taken
    pub standing : (take_first k f o).answer ≡ Taken → Standing c (take_first k f o)
    pub laid : (take_first k f o).answer ≡ Taken → lay_first k c f (lay_of o) ≡ lay_of (take_first k f o)

  pub radials : (k : ℕ) → Radials k
  unfolding take_first settle_first lay_first
  radials zero = record { settles = refl; long = refl; begun = λ t. t; standing = h; laid = λ t. refl }
  radials (suc k) =
      let r = radials k in
      let q = take_first k f o in
      let at = radial_place k in
      let s = over-settles c f at bytes q r.standing in
      record {
        settles =
            s.settles
            ∙ ap (λ (n : ℕ). settle_over c n (old_at f at) at (put_of q)) r.long
            ∙ ap (settle_over c (length o.room) (old_at f at) at) r.settles;
        long = s.long ∙ r.long;
        begun = λ t. r.begun (over-taking f at q t).before;
        standing = λ t. over-standing c f at bytes q t (r.standing (over-taking f at q t).before);
        laid = λ t.
            let b = (over-taking f at q t).before in
            ap (lay_over c f at) (r.laid b) ∙ over-laid c f at bytes q t (r.standing b);
      }

-- ---- all of it

module _ (g : Generic) (s : Site) (t : Task) (c f room : List ℕ) (gf : GenericFits g) (sf : SiteFits s) (tf : TaskFits t) (cb : Bytes c) (fb : Bytes f) where
  pub front-stands : (ours g s t c room).answer ≡ Taken → Standing c (ours g s t c room)
  front-stands e =
      let a = ours-taken g s t c room gf sf tf cb e in
      let x = generic-trip.length-is g gf in
      let y = site-trip.length-is s sf in
      let z = task-trip.length-is t tf in
      record {
        agree = a.agree;
        head = generic_bytes g ++ site_bytes s ++ task_bytes t;
        more = [];
        is = a.written ∙ ap (λ (l : List ℕ). generic_bytes g ++ site_bytes s ++ task_bytes t ++ l) (sym (append-nil c));
        long = simp length-append (omega arith);
        planned = λ d.
            let b = (behind (written_in (ours g s t c room)) (ours g s t c room).walk a.agree.stops d).cuts in
            let n = a.at in
            omega arith;
      }

  pub record Imported : Type 0 where
    pub settles : put_of (through g s t c f room) ≡ settle_first (radials_in (length f)) c f (length room) (settle_ours g s t c (length room))
    pub suffices : (through g s t c f room).answer ≡ Taken → cut_place 1 + length c ≤ length room
    pub laid : (through g s t c f room).answer ≡ Taken
        → (lay_first (radials_in (length f)) c f (record { walk = (settle_ours g s t c (length room)).walk; room = patch room 0 (generic_bytes g ++ site_bytes s ++ task_bytes t ++ c) })).room
        ≡ (through g s t c f room).room

  pub imported : Imported
  imported =
      let n = radials_in (length f) in
      let o = ours g s t c room in
      let b = ours-settle g s t c room gf sf tf cb in
      let r = radials c f fb o front-stands n in
      record {
        settles =
            r.settles
            ∙ ap (λ (k : ℕ). settle_first n c f k (put_of o)) b.long
            ∙ ap (settle_first n c f (length room)) b.settles;
        suffices = λ e. (ours-taken g s t c room gf sf tf cb (r.begun e)).suffices;
        laid = λ e.
            let a = ours-taken g s t c room gf sf tf cb (r.begun e) in
            ap₂ (λ (p : Put) (x : List ℕ). (lay_first n c f (record { walk = p.walk; room = x })).room) (sym b.settles) (sym a.held)
            ∙ ap (λ (l : Lay). l.room) (r.laid e);
      }
