-- What an answer that gives the first record says of spellings.
use Rattle.std.proofs.Common.{◌≡◌, ℕ, ◌<◌, ◌≤◌, List, length, get_or, take, drop, Result, Ok, Err, sym, ap, subst, ◌∙◌, arith}
use Rattle.std.specs.Prelude.{IfOk}
use Rattle.std.proofs.lemmas.List.{take-append-drop, length-take}
use Rattle.wire_num.specs.Laws.Number.{bytes_are}
use Rattle.needle_record.specs.declared.Record.{Record}
use Rattle.needle_record.specs.declared.NeedleFault.{NeedleFault}
use Rattle.needle_record.specs.Spelling.{SpellsNeedle, length_of_record}
use Rattle.needle_record.specs.Reading.{needle_at}
use Rattle.needle_record.specs.Given.{Gives}
use Rattle.needle_record.specs.Laws.Spelled.{spelled-reads, spelled-reads_append}
use Rattle.needle_record.specs.Laws.Found.{found-spelled}

pub spelled_answer : (bytes : List ℕ) (answer : Result (Record × ℕ) NeedleFault) → ((i : ℕ) → get_or bytes i 0 < 256) → Gives answer (needle_at bytes)
    → IfOk answer (λ x. SpellsNeedle x.0 (take x.1 bytes))
spelled_answer bytes (Ok found) each given = found-spelled bytes found (bytes_are bytes each) given
spelled_answer bytes (Err why) each given = tt

-- a spelling at the front is what is read
pub front_read : (bytes : List ℕ) (r : Record) (n : ℕ) → n ≤ length bytes → SpellsNeedle r (take n bytes) → needle_at bytes ≡ Ok (r, n)
front_read bytes r n long spells =
    let size : n ≡ length_of_record r = omega (arith, (spelled-reads r (take n bytes) spells).long, length-take n bytes) in
    ap needle_at (sym (take-append-drop n bytes)) ∙ spelled-reads_append r (take n bytes) (drop n bytes) spells ∙ ap (λ k. Ok (r, k)) (sym size)

pub front_answer : (bytes : List ℕ) (answer : Result (Record × ℕ) NeedleFault) → Gives answer (needle_at bytes)
    → (r : Record) (n : ℕ) → n ≤ length bytes → SpellsNeedle r (take n bytes) → Gives answer (Ok (r, n))
front_answer bytes answer given r n long spells = subst (Gives answer) (front_read bytes r n long spells) given
