-- What reading means, by the structure: what the plain reading means, and where it and reading part. Assumes nothing.
use Prim.Native.Nat.{ℕ, suc, ◌+◌, ◌-◌, ◌^◌, ◌≤◌, ◌<◌}
use native.Mathlib.Decide.{dec_lt}
use native.Mathlib.Omega.{arith}
use mathlib.Core.Path.{◌≡◌, refl, sym, ap, subst, ◌∙◌}
use mathlib.Core.Bool.{true, ◌&&◌}
use mathlib.Core.List.{List, [], ◌∷◌, ◌++◌, append_assoc, append-nil}
use mathlib.Core.Logic.{dite, ◌⊎◌, inl, inr}
use lib.Dec.{lit<}
use lib.IntN.{pos}
use lib.ListN.{length, take, drop, length-append, take-append-drop}
use lib.Seq.{take_at, take_all, take-append-le, take-add, drop_at, length-take-le}
use mir.Syntax.{w32}
use Rattle.rules.proofs.Judged.{held_first}
use Rattle.le.specs.Le.{Bytes, int}
use Rattle.le.proofs.Here.{split, drop-bytes}
use Rattle.le.proofs.Tests.{both}
use Rattle.rules.specs.Check.{Hold}
use Rattle.rules.specs.Ranges.{among}
use Rattle.rules.specs.Tiling.{length_clauses}
use Rattle.rules.proofs.Numbers.{least}
use Rattle.cut.specs.declared.Cut.{Cut}
use Rattle.task.specs.declared.Task.{Task}
use Rattle.task.specs.Task.{task_at}
use Rattle.walk.specs.declared.due.Walk.{Walk}
use Rattle.walk.specs.Due.{at_start, size_of}
use Rattle.reading.specs.declared.step.Step.TheVariants.{Refused}
use Rattle.reading.specs.Step.{step_of}
use Rattle.reading.specs.Reading.{last, fuel, ending_told, plain_stop, plain_stretches, plain_told, stop, ending, stretches, told}
use Rattle.reading.proofs.Run.{Goes, on, off, goes, Stays, taken, plain-taken, opened, run-stays, last_within}
use Rattle.reading.proofs.Exactly.{step-open, step-of}
use Rattle.reading.proofs.Growing.{keeps-refused, through, rests}
use Rattle.reading.proofs.Grown.{last-onward}
use Rattle.reading.proofs.Loops.{last_step}
use Rattle.volume.specs.Volume.{Volume, IsVolume, CutsOk, bytes_of_volume}
use Rattle.volume.specs.Accepted.{Accepted, nothing, generic, site, task, radials, radial, moment, volume, AcceptedOk, bytes_of_accepted, due_size, due_rules, Says, complete, follow, missing, broken}
use Rattle.volume.specs.InPlace.{cut_block}
use Rattle.volume.specs.Meaning.{Told, Accepts, accepted_stretches}
use Rattle.volume.proofs.Accepts.{Tried, tried, holds}
use Rattle.volume.proofs.Accepts as volumes
use Rattle.volume.proofs.Meaning.{reads}
use Rattle.volume.proofs.Once.{same-accepted, same-volume}
use Rattle.volume.proofs.Placed.{CutsIn, front}
use Rattle.volume.proofs.Tells.{tells}
use Rattle.hope.specs.Hope.{Hope, Begins, Lost, Against, same, lost}
use Rattle.hope.specs.Meaning.{ReadsVolume, Hopeful, HopeSays, plainly, hopeless, ReadAs, Parts, Means}
use Rattle.hope.proofs.Was.{AllNarrow}
use Rattle.hope.proofs.Back.{complete-way, complete-told}
use Rattle.hope.proofs.Made.{append-bytes}
use Rattle.hope.proofs.Told.{hope-shorter, same-radials, complete-plain, front_bytes, front-stops, accepted-hope, against, hope-told, begins, read_alike}

-- ---- a volume's masks are numbers of 64 bits, whatever its data

narrow-in : (f : List ℕ) (cs : List Cut) (k : ℕ) → CutsIn f k cs → CutsOk cs → (c : ℕ) → k ≤ c → c < k + length cs → (cut_block f c).moments_mask < 2 ^ 64
narrow-in f [] k ci ok c a b = absurd (omega arith)
narrow-in f (x ∷ cs) k ci ok c a b =
    dite (dec_lt k c) (λ l. narrow-in f cs (suc k) ci.1 ok.2 c l (omega arith))
    (λ l. let e : k ≡ c = omega arith in subst (λ (j : ℕ). (cut_block f j).moments_mask < 2 ^ 64) e (subst (λ (y : Cut). y.moments_mask < 2 ^ 64) (sym ci.0) ok.0.moments_mask))

volume-narrow : (v : Volume) → IsVolume v → AllNarrow (bytes_of_volume v)
volume-narrow v is c a b =
    let f = bytes_of_volume v in
    let x = front f v [] is.headed (append-nil f) in
    let n = is.headed.number in
    let t : (task_at f 160).cut_number ≡ v.task.cut_number = ap (λ (t : Task). t.cut_number) x.task in
    narrow-in f v.cuts 1 x.cuts is.headed.cuts c a (omega arith)

reads-volume : (v : Volume) → IsVolume v → ReadsVolume v
reads-volume v is =
    let f = bytes_of_volume v in
    let r = reads v is in
    let small = volume-narrow v is in
    record { complete = complete-told f small r.complete; radials = same-radials f (complete-way f small r.complete) ∙ r.radials }

-- ---- what says nothing of hope

-- a block is due, with a byte at least, but behind a volume
pub some-due : (a : Accepted) → AcceptedOk a → (0 < due_size a) ⊎ ((v : Volume) × (a ≡ volume v))
unfolding length_clauses
some-due nothing ok = inl (lit< tt)
some-due (generic g) ok = inl (lit< tt)
some-due (site g s) ok = inl (lit< tt)
some-due (task g s t cs) ok = inl (lit< tt)
some-due (radials b) ok = inl (lit< tt)
some-due (radial b r) ok = inl (lit< tt)
some-due (moment b r m) ok =
    let l = both (among (pos 1) (pos 32768) (int m.length) && _) _ ok.3.1.1.1.1.0 in
    inl (least w32 1 32768 m.length (lit< tt) (both (among (pos 1) (pos 32768) (int m.length)) _ l.0).0)
some-due (volume v) ok = inr (v, refl)

-- behind a volume any bytes say something
volume-says : (v : Volume) (rest : List ℕ) → (x : List ℕ) × Says (volume v) rest x
volume-says v [] = (_, complete v)
volume-says v (x ∷ xs) = (_, follow v x xs)

-- ---- accepted blocks with hope, and a block due behind them: the reading of their bytes stops there, and the block has its size

module _ (a : Accepted) (bs : Bytes (bytes_of_accepted a)) (h : Hopeful a) where
  hope-of : Hope (bytes_of_accepted a)
  hope-of = (begins (bytes_of_accepted a) bs).1 h.hope

  record Stops : Type 0 where
    read : (stop (bytes_of_accepted a)).at ≡ length (bytes_of_accepted a)
    radials : stretches (bytes_of_accepted a) ≡ accepted_stretches a
    size : size_of (stop (bytes_of_accepted a)) ≡ due_size a

  stops : 0 < due_size a → Stops
  stops some = go (against A bs) (hope-told A bs hope-of)
    where
      A : List ℕ
      A = bytes_of_accepted a

      go : Against A → (told A ≡ 0 ∷ []) ⊎ ((n : ℕ) × (told A ≡ 1 ∷ n ∷ [])) → Stops
      go (same e s r) y =
          let t = subst (λ (f : List ℕ). Told f a (1 ∷ (due_size a - 0) ∷ [])) (append-nil A) (tells a [] _ h.is (missing a [] some)) in
          let at = ap (λ (w : Walk). w.at) s ∙ t.read in
          let o = opened true A (stop A) (due_size a - 0) (step-open (ending A) (due_size a - 0) (e ∙ t.verdict)) in
          let l = o.1 in
          let k = o.2 in
          record { read = at; radials = r ∙ t.radials; size = omega arith }
      go (lost l e j k) (inl t) = absurd (let z : ◌≡◌ {A = ℕ} 0 1 = cc in omega arith)
      go (lost l e j k) (inr t) = let q = t.1 in absurd (let z : ◌≡◌ {A = ℕ} 0 1 = cc in omega arith)

-- ---- what accepted blocks and the bytes behind them say is told of their file

-- by their own rules: hope of the accepted blocks keeps the reading with the plain one
module _ (a : Accepted) (rest : List ℕ) (bs : Bytes (bytes_of_accepted a ++ rest)) (h : Hopeful a) where
  own-bytes : Bytes (bytes_of_accepted a)
  own-bytes = subst Bytes (take_at (bytes_of_accepted a) rest (length (bytes_of_accepted a)) refl) (front_bytes (length (bytes_of_accepted a)) (bytes_of_accepted a ++ rest) bs)

  tells-plainly : (x : List ℕ) → Says a rest x → ReadAs (bytes_of_accepted a ++ rest) a x
  tells-plainly x s = go (against f bs)
    where
      A : List ℕ
      A = bytes_of_accepted a

      f : List ℕ
      f = A ++ rest

      t : Told f a x
      t = tells a rest x h.is s

      go : Against f → ReadAs f a x
      go (same e w r) = record { verdict = e ∙ t.verdict; read = ap (λ (v : Walk). v.at) w ∙ t.read; radials = r ∙ t.radials }
      go (lost l e j k) =
          let n = t.read in
          absurd (l.none (subst Hope (sym (take-append-le l.next.at A rest (omega arith))) (hope-shorter A l.next.at own-bytes (omega arith) (hope-of a own-bytes h))))

  -- no hope behind the due block, which keeps its rules: the reading stops before it
  module _ (there : due_size a ≤ length rest) (rules : Hold (due_rules a rest)) (none : Begins (bytes_of_accepted a ++ take (due_size a) rest) → ⊥) where
    abbrev A : List ℕ
    A = bytes_of_accepted a

    abbrev block : List ℕ
    block = take (due_size a) rest

    abbrev behind-it : List ℕ
    behind-it = drop (due_size a) rest

    all : (A ++ block) ++ behind-it ≡ A ++ rest
    all = append_assoc (bytes_of_accepted a) (take (due_size a) rest) (drop (due_size a) rest) ∙ ap (λ (l : List ℕ). bytes_of_accepted a ++ l) (take-append-drop (due_size a) rest)

    block-bytes : Bytes (A ++ block)
    block-bytes = subst Bytes (take_at (A ++ block) behind-it (length (A ++ block)) refl) (front_bytes (length (A ++ block)) ((A ++ block) ++ behind-it) (subst Bytes (sym all) bs))

    long : length (A ++ block) ≡ length A + due_size a
    long = length-append (bytes_of_accepted a) (take (due_size a) rest) ∙ ap (λ (n : ℕ). length (bytes_of_accepted a) + n) (length-take-le (due_size a) rest there)

    due : 0 < due_size a
    due = dite (dec_lt 0 (due_size a)) (λ k. k)
        (λ k. let z : due_size a ≡ 0 = omega arith in absurd (none (rw z (subst Begins (sym (append-nil (bytes_of_accepted a))) h.hope))))

    -- the plain reading takes the block
    plain_end : (plain_stop (A ++ block)).at ≡ length (A ++ block)
    plain_end = go (tried a h.is rest (subst Bytes (drop_at (bytes_of_accepted a) rest (length (bytes_of_accepted a)) refl) (drop-bytes (bytes_of_accepted a ++ rest) (length (bytes_of_accepted a)) (let l = length-append (bytes_of_accepted a) rest in omega arith) bs)))
      where
        end_of : (b : Accepted) → AcceptedOk b → (plain_stop (bytes_of_accepted b)).at ≡ length (bytes_of_accepted b)
        end_of b ok = by (some-due b ok)
          where
            by : (0 < due_size b) ⊎ ((v : Volume) × (b ≡ volume v)) → (plain_stop (bytes_of_accepted b)).at ≡ length (bytes_of_accepted b)
            by (inl k) = subst (λ (f : List ℕ). (plain_stop f).at ≡ length (bytes_of_accepted b)) (append-nil (bytes_of_accepted b)) (tells b [] _ ok (missing b [] k)).read
            by (inr k) = subst (λ (f : List ℕ). (plain_stop f).at ≡ length (bytes_of_accepted b)) (append-nil (bytes_of_accepted b)) (tells b [] (0 ∷ []) ok (subst (λ (c : Accepted). Says c [] (0 ∷ [])) (sym k.1) (complete k.0))).read

        said : {b : Accepted} {q y : List ℕ} → Says b q y → due_size b ≤ length q → Hold (due_rules b q) → 0 < due_size b → ⊥
        said (complete v) l k z = omega arith
        said (follow v x xs) l k z = omega arith
        said (missing b q m) l k z = omega arith
        said (broken b q c m f) l k z = held_first f k

        go : Tried a rest → (plain_stop (bytes_of_accepted a ++ take (due_size a) rest)).at ≡ length (bytes_of_accepted a ++ take (due_size a) rest)
        go (volumes.stops y s) = absurd (said s there rules due)
        go (volumes.goes x g d l r gs n less) =
            let q : x ≡ take (due_size a) rest = sym (take_at x g (due_size a) l) ∙ ap (take (due_size a)) (sym d) in
            subst (λ (f : List ℕ). (plain_stop f).at ≡ length f) (n.bytes ∙ ap (λ (y : List ℕ). bytes_of_accepted a ++ y) q) (end_of n.accepted n.is)

    -- the reading does not
    record Before : Type 0 where
      stays_at : stop (A ++ block) ≡ stop A
      refuses : ending (A ++ block) ≡ Refused 40 (stop (A ++ block)).at

    before : Before
    before = go (goes true (A ++ block) (stop A)) (against (A ++ block) block-bytes)
      where
        st : Stops a own-bytes h
        st = stops a own-bytes h due

        way : stop (A ++ block) ≡ last (fuel (A ++ block)) (A ++ block) (stop A)
        way = through A block

        go : Goes true (A ++ block) (stop A) → Against (A ++ block) → Before
        go (on m q) y =
            let t = (taken (A ++ block) (stop A) m q).end in
            let l = long in
            let r = st.read in
            let z = st.size in
            let e : stop (A ++ block) ≡ last (fuel (A ++ block)) (A ++ block) m = way ∙ last_step (A ++ block) (stop A) m q in
            let o = last-onward (fuel (A ++ block)) (A ++ block) m in
            let at : m.at ≤ (stop (A ++ block)).at = subst (λ (w : Walk). m.at ≤ w.at) (sym e) o in
            absurd (none ((begins (A ++ block) block-bytes).0 (subst Hope (take_all (stop (A ++ block)).at (A ++ block) (omega arith)) (accepted-hope (A ++ block) block-bytes))))
        go (off q) (same e w r) =
            let s : stop (A ++ block) ≡ stop A = way ∙ run-stays true (λ v. v) (λ v n r. r) (fuel (A ++ block)) (A ++ block) (stop A) q in
            let p = plain_end in
            let a1 = ap (λ (v : Walk). v.at) (sym s ∙ w) in
            let k = st.read in
            let l = long in
            let d = due in
            absurd (omega arith)
        go (off q) (lost l e j k) =
            record {
              stays_at = way ∙ run-stays true (λ v. v) (λ v n r. r) (fuel (A ++ block)) (A ++ block) (stop A) q;
              refuses = step-of (ending (A ++ block)) 40 (stop (A ++ block)).at e;
            }

    tells-hopeless : ReadAs (A ++ rest) a (2 ∷ 40 ∷ length A ∷ [])
    unfolding Stays ending_told
    tells-hopeless =
        let b = before in
        let p = (stop (A ++ block)).at in
        let st = stops a own-bytes h due in
        let at = ap (λ (v : Walk). v.at) b.stays_at ∙ st.read in
        let r = rests (A ++ block) behind-it (Refused 40 p) tt (keeps-refused (A ++ block) behind-it (stop (A ++ block)) 40 p b.refuses) in
        let o = rests A block (ending (A ++ block)) (subst Stays (sym b.refuses) tt) (ap (step_of (A ++ block)) (sym b.stays_at)) in
        subst (λ (f : List ℕ). ReadAs f a (2 ∷ 40 ∷ length A ∷ [])) all
        (record {
          verdict = ap ending_told r.told ∙ ap (λ (n : ℕ). 2 ∷ 40 ∷ n ∷ []) at;
          read = ap (λ (v : Walk). v.at) r.at ∙ at;
          radials = r.radials ∙ o.radials ∙ st.radials;
        })

tells_all : (a : Accepted) (rest x : List ℕ) → Bytes (bytes_of_accepted a ++ rest) → Hopeful a → HopeSays a rest x → ReadAs (bytes_of_accepted a ++ rest) a x
tells_all a rest x bs h (plainly b q y s) = tells-plainly a rest bs h x s
tells_all a rest x bs h (hopeless b q l r n) = tells-hopeless a rest bs h l r n

-- ---- any file is such blocks and bytes

module _ (f : List ℕ) (bs : Bytes f) where
  accepted-is : (a : Accepted) (rest : List ℕ) → bytes_of_accepted a ++ rest ≡ f → (stop f).at ≡ length (bytes_of_accepted a) → Begins (bytes_of_accepted a)
  accepted-is a rest e s =
      let q : take (stop f).at f ≡ bytes_of_accepted a = ap (λ (n : ℕ). take n f) s ∙ ap (take (length (bytes_of_accepted a))) (sym e) ∙ take_at (bytes_of_accepted a) rest (length (bytes_of_accepted a)) refl in
      (begins (bytes_of_accepted a) (subst Bytes q (front_bytes (stop f).at f bs))).0 (subst Hope q (accepted-hope f bs))

  -- the reading and the plain one say the same
  parts_same : told f ≡ plain_told f → stop f ≡ plain_stop f → stretches f ≡ plain_stretches f → Accepts f → Parts f
  parts_same e w r p =
      let at = ap (λ (v : Walk). v.at) w ∙ p.told.read in
      record {
        accepted = p.accepted;
        hopeful = record { is = p.is; hope = accepted-is p.accepted p.rest p.bytes at };
        rest = p.rest;
        bytes = p.bytes;
        verdict = p.verdict;
        says = plainly p.accepted p.rest p.verdict p.says;
        told = record { verdict = e ∙ p.told.verdict; read = at; radials = r ∙ p.told.radials };
      }

  -- hope ended: the accepted blocks are all that the plain reading finds in their bytes, and the due block is there and keeps its rules
  parts-lost : (l : Lost f) → told f ≡ 2 ∷ 40 ∷ (stop f).at ∷ [] → (stop f).at < l.next.at → l.next.at ≤ (plain_stop f).at → Accepts (take (stop f).at f) → Parts f
  parts-lost l e j k p = go (tried a p.is rest rest-bytes)
    where
      a : Accepted
      a = p.accepted

      rest : List ℕ
      rest = drop (stop f).at f

      within : (stop f).at ≤ length f
      within = last_within true (fuel f) f at_start (omega arith)

      rest-bytes : Bytes rest
      rest-bytes = drop-bytes f (stop f).at within bs

      at : (stop f).at ≡ length (bytes_of_accepted a)
      at = sym (ap (λ (v : Walk). v.at) (read_alike f bs).stops) ∙ p.told.read

      whole : bytes_of_accepted a ≡ take (stop f).at f
      whole =
          let n = ap length p.bytes in
          let m = length-append (bytes_of_accepted a) p.rest in
          let o = length-take-le (stop f).at f within in
          let q = at in
          sym (take_at (bytes_of_accepted a) p.rest (length (bytes_of_accepted a)) refl) ∙ ap (take (length (bytes_of_accepted a))) p.bytes ∙ take_all (length (bytes_of_accepted a)) (take (stop f).at f) (omega arith)

      file : bytes_of_accepted a ++ rest ≡ f
      file = ap (λ (x : List ℕ). x ++ rest) whole ∙ take-append-drop (stop f).at f

      hopeful : Hopeful a
      hopeful = record { is = p.is; hope = accepted-is a rest file at }

      -- the plain reading goes on
      not-said : (x : List ℕ) → Says a rest x → ⊥
      not-said x s = let t = (subst (λ (g : List ℕ). Told g a x) file (tells a rest x p.is s)).read in let q = at in omega arith

      due : 0 < due_size a
      due = by (some-due a p.is)
        where
          by : (0 < due_size a) ⊎ ((v : Volume) × (a ≡ volume v)) → 0 < due_size a
          by (inl z) = z
          by (inr z) = let s = volume-says z.0 rest in absurd (not-said s.0 (subst (λ (b : Accepted). Says b rest s.0) (sym z.1) s.1))

      none : due_size a ≤ length rest → Begins (bytes_of_accepted a ++ take (due_size a) rest) → ⊥
      none there b =
          let own = subst Bytes (sym whole) (front_bytes (stop f).at f bs) in
          let st = stops a own hopeful due in
          let same_stop : stop (bytes_of_accepted a) ≡ stop f = ap stop whole ∙ front-stops f in
          let size : size_of (stop f) ≡ due_size a = ap (λ (v : Walk). size_of v) (sym same_stop) ∙ st.size in
          let next-at = (plain-taken f (stop f) l.next l.taken).end in
          let q : take l.next.at f ≡ bytes_of_accepted a ++ take (due_size a) rest = ap (λ (n : ℕ). take n f) (next-at ∙ ap (λ (n : ℕ). (stop f).at + n) size) ∙ take-add (stop f).at (due_size a) f ∙ ap (λ (x : List ℕ). x ++ take (due_size a) rest) (sym whole) in
          l.none (subst Hope (sym q) ((begins (bytes_of_accepted a ++ take (due_size a) rest) (append-bytes (bytes_of_accepted a) (take (due_size a) rest) own (front_bytes (due_size a) rest rest-bytes))).1 b))

      go : Tried a rest → Parts f
      go (volumes.stops x s) = absurd (not-said x s)
      go (volumes.goes x g d m rules gs n less) =
          let there : due_size a ≤ length rest = let z = ap length d ∙ length-append x g in omega arith in
          record {
            accepted = a;
            hopeful = hopeful;
            rest = rest;
            bytes = file;
            verdict = _;
            says = hopeless a rest there rules (none there);
            told = record { verdict = e ∙ ap (λ (i : ℕ). 2 ∷ 40 ∷ i ∷ []) at; read = at; radials = sym (read_alike f bs).radials ∙ p.told.radials };
          }

  parts : Parts f
  parts = go (against f bs)
    where
      go : Against f → Parts f
      go (same e w r) = parts_same e w r (volumes.accepts f bs)
      go (lost l e j k) = parts-lost l e j k (volumes.accepts (take (stop f).at f) (front_bytes (stop f).at f bs))

-- ---- and only one way

only_one : (a b : Accepted) (rest q x y : List ℕ) → Bytes (bytes_of_accepted a ++ rest) → Hopeful a → Hopeful b → HopeSays a rest x → HopeSays b q y
    → bytes_of_accepted a ++ rest ≡ bytes_of_accepted b ++ q → (a ≡ b) × (rest ≡ q)
only_one a b rest q x y bs h k says said e =
    let l = (tells_all a rest x bs h says).read in
    let m = (tells_all b q y (subst Bytes e bs) k said).read in
    let s = split (bytes_of_accepted a) (bytes_of_accepted b) rest q (sym l ∙ ap (λ (f : List ℕ). (stop f).at) e ∙ m) e in
    (same-accepted a b h.is k.is s.0, s.1)

pub means : Means
means = record { reads = reads-volume; holds = λ f bs e. holds f bs (complete-plain f e); once = same-volume; tells = tells_all; accepts = parts; one = only_one }
