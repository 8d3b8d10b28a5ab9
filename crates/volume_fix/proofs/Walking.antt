-- What the loop knows so far.
use Rattle.std.proofs.Common.{◌≡◌, ℕ, ◌+◌, ◌/◌, ◌≤◌, List, [], ◌∷◌, ◌++◌, length, drop, Ok, Result, sym, ap, ◌∙◌, append_assoc, append-nil, length-drop, arith}
use Rattle.volume_forms.specs.declared.Entry.{Entry}
use Rattle.volume_fix.specs.declared.Past.{Past}
use Rattle.volume_fix.specs.Walk.{header_length, Walk, entry_or_past, walk}
use Rattle.volume_fix.specs.Laws.Walk.{ends_within, with_entries, ended, walk-found}

-- The entries that were appended, and the walk that is left, are the whole walk, and there is room for what is left.
pub record Walking (end first : ℕ) (chunk : List ℕ) (before : List Entry) (at : ℕ) (rest : List ℕ) (now : List Entry) (count capacity : ℕ) : Type 0 where
  pub done : List Entry
  pub out : now ≡ before ++ done
  pub walked : walk end first chunk ≡ with_entries done (walk end at rest)
  pub reserved : count + (length rest + header_length) / 32 ≤ capacity

module _ {end first : ℕ} {chunk : List ℕ} {before : List Entry} where
  pub walking-on : (at : ℕ) (rest : List ℕ) (now : List Entry) (count capacity : ℕ) (found : Entry × ℕ) (room : ℕ) → Walking end first chunk before at rest now count capacity
      → header_length ≤ length rest → entry_or_past end at rest ≡ Ok found → capacity ≤ room → Walking end first chunk before (at + found.1) (drop found.1 rest) (now ++ found.0 ∷ []) (count + 1) room
  walking-on at rest now count capacity found room w h e c =
      let far = ends_within end at rest found e in
      record {
        done = w.done ++ found.0 ∷ [];
        out = ap (λ es. es ++ found.0 ∷ []) w.out ∙ append_assoc before w.done (found.0 ∷ []);
        walked = w.walked ∙ ap (with_entries w.done) (walk-found end at rest found h e)
            ∙ ap (λ es. record { entries = es; next = (walk end (at + found.1) (drop found.1 rest)).next }) (sym (append_assoc w.done (found.0 ∷ []) (walk end (at + found.1) (drop found.1 rest)).entries));
        reserved = omega (arith, w.reserved, far.least, length-drop found.1 rest);
      }

  -- the walk that is left has ended
  pub walking-entries : (at : ℕ) (rest : List ℕ) (now : List Entry) (count capacity : ℕ) (next : Result ℕ Past) → Walking end first chunk before at rest now count capacity → walk end at rest ≡ ended next
      → now ≡ before ++ (walk end first chunk).entries
  walking-entries at rest now count capacity next w e =
      w.out ∙ ap (λ es. before ++ es) (sym (append-nil w.done) ∙ ap (λ (v : Walk). w.done ++ v.entries) (sym e) ∙ ap (λ (v : Walk). v.entries) (sym w.walked))

  pub walking-next : (at : ℕ) (rest : List ℕ) (now : List Entry) (count capacity : ℕ) (next : Result ℕ Past) → Walking end first chunk before at rest now count capacity → walk end at rest ≡ ended next
      → next ≡ (walk end first chunk).next
  walking-next at rest now count capacity next w e = ap (λ (v : Walk). v.next) (sym e) ∙ ap (λ (v : Walk). v.next) (sym w.walked)
