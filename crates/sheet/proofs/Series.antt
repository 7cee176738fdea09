-- Reading records that were written one behind the other: where each passes, reading comes behind the last of them.
-- Assumes nothing.
use Prim.Native.Nat.{ℕ, zero, suc, ◌+◌, ◌-◌, ◌≤◌, ◌<◌}
use mathlib.Core.Path.{◌≡◌, refl, sym, ap, ◌∙◌}
use mathlib.Core.List.{List, [], flat_map}
use native.Mathlib.Omega.{arith}
use lib.ListN.{length, length-append}
use Rattle.common.specs.Lists.{up_to}
use Rattle.common.specs.Reply.{given}
use Rattle.common.proofs.Places.{Stands, stands-moved, stands-flat_map}
use Rattle.common.proofs.Reply.{Clear}
use Rattle.common.proofs.Sums.{length-flat_map, flat_map-up_to-suc}
use Rattle.sheet.specs.Record.{part, record_of}
use Rattle.sheet.specs.Amend.{Draft, empty_draft, amended_model}
use Rattle.sheet.specs.Faults.{faults_of}
use Rattle.sheet.specs.Parse.{Parsed, Progress, outset, finished, extended, more, parse_from, parse}
use Rattle.sheet.proofs.Written.{length-record_of, body-read, record-read}
use Rattle.sheet.proofs.Turns.{turn-passes, turn-ends, parse-next, parse-ended}

-- reading comes to a place, having read a model, with so many records left
pub record Comes (s : List ℕ) (left at : ℕ) (m : Draft) : Type 0 where
  pub before : Progress
  pub has-read : before.draft ≡ m
  pub goes : parse s ≡ parse_from left s at before

pub comes-first : (s : List ℕ) → Comes s 347 0 empty_draft
unfolding parse
comes-first s = record { before = outset; has-read = refl; goes = refl }

pub comes-moved : {s : List ℕ} {m : Draft} {left fewer at next : ℕ} → Comes s left at m → left ≡ fewer → at ≡ next
    → Comes s fewer next m
comes-moved c e k = rw (e, k) at c

module _ {s : List ℕ} {left at : ℕ} {m : Draft} (c : Comes s left at m) (some : 0 < left) where
  -- a record that passes
  pub comes-next : (kind : ℕ) (body : List ℕ) {e : Draft} → Stands s at (record_of kind body) → length body < 65536
      → kind < 65536 → (kind ≡ 3 → ⊥) → Clear (faults_of m at kind body)
      → ((d : Progress) → d.draft ≡ m → (extended d kind at body).draft ≡ e)
      → Comes s (left - 1) (at + 4 + length body) e
  comes-next kind body w short small no_end clear leads =
      let d = c.before in
      let b = body-read kind body w in
      let k : Clear (faults_of d.draft at kind (part s (at + 4) (length body))) = rw (c.has-read, b) clear in
      record {
        before = extended d kind at body;
        has-read = leads d c.has-read;
        goes =
            c.goes
            ∙ parse-next s at d left some (record-read kind body w short small)
            (turn-passes s at d kind (at + 4) (length body) k no_end
            ∙ ap (λ x. given (more (at + 4 + length body) (extended d kind at x))) b);
      }

  -- the end record, nothing behind it
  pub comes-to-end : Stands s at (record_of 3 []) → length s ≤ at + 4 → Clear (faults_of m at 3 [])
      → (d : Parsed) × (parse s ≡ given d) × (d.model ≡ amended_model m)
  comes-to-end w last clear =
      let d = c.before in
      let k : Clear (faults_of d.draft at 3 (part s (at + 4) 0)) = rw (c.has-read, body-read 3 [] w) clear in (
        finished d,
        c.goes
            ∙ parse-ended s at d left some (record-read 3 [] w (omega arith) (omega arith))
            (turn-ends s at d 3 (at + 4) 0 k refl (omega arith)),
        ap amended_model c.has-read,
      )

-- records of one kind, and the models that are read before each of them
pub record Series (kind count : ℕ) (body : ℕ → List ℕ) (model : ℕ → Draft) : Type 0 where
  pub short : (k : ℕ) → k < count → length (body k) < 65536
  pub clear : (k at : ℕ) → k < count → Clear (faults_of (model k) at kind (body k))
  pub leads : (k : ℕ) (d : Progress) (at : ℕ) → k < count → d.draft ≡ model k
      → (extended d kind at (body k)).draft ≡ model (suc k)

module _ {kind count : ℕ} {body : ℕ → List ℕ} {model : ℕ → Draft} (ok : Series kind count body model)
    (small : kind < 65536) (no_end : kind ≡ 3 → ⊥) where
  -- the first k records
  abbrev pub upto : ℕ → List ℕ
  upto k = flat_map (λ i. record_of kind (body i)) (up_to k)

  length_more : (k : ℕ) → length (upto (suc k)) ≡ length (upto k) + 4 + length (body k)
  length_more k =
      ap length (flat_map-up_to-suc (λ i. record_of kind (body i)) k)
      ∙ omega (arith, length-append (upto k) (record_of kind (body k)), length-record_of kind (body k))

  pub comes-through : {s : List ℕ} {left at : ℕ} → Stands s at (upto count) → count < left → Comes s left at (model 0)
      → (k : ℕ) → k ≤ count → Comes s (left - k) (at + length (upto k)) (model k)
  unfolding flat_map up_to
  comes-through w room c zero h = comes-moved c (omega arith) (omega arith)
  comes-through {s} {left} {at} w room c (suc k) h =
      let old = comes-through w room c k (omega arith) in
      let here : Stands s (at + length (upto k)) (record_of kind (body k)) =
      stands-moved (stands-flat_map (λ i. record_of kind (body i)) count k h w)
      (ap (λ i. at + i) (sym (length-flat_map (λ i. record_of kind (body i)) (up_to k)))) in
      comes-moved
      (comes-next old (omega arith) kind (body k) here (ok.short k h) small no_end (ok.clear k _ h)
      (λ d e. ok.leads k d _ h e))
      (omega arith) (omega (arith, length_more k))
