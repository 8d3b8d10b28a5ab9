-- How an id comes to one holder after the other.
use Rattle.std.proofs.Common.{◌≡◌, ◌≢◌, ◌⊎◌, inl, inr, ℕ, ◌+◌, ◌^◌, ◌<◌, ◌≤◌, List, [], ◌++◌, Option, Some, None, refl, sym, ◌∙◌, ap, subst, arith}
use Rattle.std.specs.Prelude.{unwrap_or}
use Rattle.std.proofs.lemmas.List.{append-nil}
use Rattle.std.proofs.lemmas.Bool.{cases_eq, cases_lt}
use Rattle.site_model.specs.Disk.{File, Place, LeftOf, IsFirm, bytes_of, firm_file, standing, Disk}
use Rattle.site_model.specs.Leaves.{starts, joins, weaker, both}
use Rattle.site_model.specs.Touches.{touches_none, touches_on, touches_more, firm_left}
use Rattle.wire_num.specs.Numbers as numbers
use Rattle.wire_num.specs.Laws.Number.{length-bytes_of}
use Rattle.wire_num.specs.Pairs.{pair_bytes, journal_bytes}
use Rattle.wire_num.specs.Laws.Pair.{AreIds, HasOrGains, has_behind, has_half}
use Rattle.shard_table.specs.Table.{Row}
use Rattle.shard_table.specs.Even.{count_on}
use Rattle.ecj_journal.specs.Journals.{AppendsPair}
use Rattle.coded_volume.specs.Deleting.{HasShard, AreFirmJournals, AppendsEverywhere, AppendsAt}

-- what is left of a firm journal with this id behind, or without
gains_by : (ids : List ℕ) (id : ℕ) (file : Option File) (image : Option (List ℕ)) (bytes : List ℕ) → IsFirm file → bytes_of file ≡ bytes → LeftOf file image → HasOrGains ids id bytes → HasOrGains ids id (unwrap_or image [])
gains_by ids id file image bytes firm is left gains =
    subst (HasOrGains ids id) (sym (ap (λ (o : Option (List ℕ)). unwrap_or o []) (firm_left file image firm left) ∙ by_file file ∙ is)) gains
  where
    by_file : (file : Option File) → unwrap_or (standing file) [] ≡ bytes_of file
    by_file None = refl
    by_file (Some file) = refl

module _ (servers : ℕ) (row : Row) (name : List ℕ) (id : ℕ) where
  -- the servers below this one are done
  pub record HasAppendedBelow (n : ℕ) (old new : Disk) : Type 0 where
    pub effect : AppendsEverywhere servers row name id old new
    pub written : (s : ℕ) → s < n → HasShard row s → new.files (s, name) ≡ Some (firm_file (bytes_of (old.files (s, name)) ++ pair_bytes id))
    pub to_write : (s : ℕ) → n ≤ s → new.files (s, name) ≡ old.files (s, name)

  pub none_deleted : (disk : Disk) → HasAppendedBelow 0 disk disk
  none_deleted disk = record {
    effect = record {
      touches = touches_none disk;
      leaves = λ ids fit journals. starts disk (λ image left. λ s within has.
          gains_by ids id (disk.files (s, name)) (image (s, name)) (journal_bytes ids) (journals s within has).firm (journals s within has).bytes (left (s, name))
          (subst (HasOrGains ids id) (append-nil (journal_bytes ids)) (has_behind ids id [] fit (omega arith))));
    };
    written = λ s less. absurd (omega arith);
    to_write = λ s more. refl;
  }

  module _ (n : ℕ) (within : n < servers) (small : id < 2 ^ 64) (old mid new : Disk) (so_far : HasAppendedBelow n old mid) where
    -- one more holder
    pub one_effect : HasShard row n → AppendsPair (n, name) id mid new → AppendsEverywhere servers row name id old new
    one_effect holds did = record {
      touches = touches_on so_far.effect.touches (touches_more (λ k is. (n, within, holds, is)) did.touches);
      leaves = λ ids fit journals. joins (so_far.effect.leaves ids fit journals)
          (weaker (both did.touches.leaves (did.leaves ids fit (subst IsFirm (sym (so_far.to_write n (omega arith))) (journals n within holds).firm) (ap bytes_of (so_far.to_write n (omega arith)) ∙ (journals n within holds).bytes)))
          (λ image said left. λ s below has. elim (cases_eq s n) [
            | inl same ↦ subst (λ t. HasOrGains ids id (unwrap_or (image (t, name)) [])) (sym same) left.1
            | inr other ↦ elsewhere ids fit journals image s below has (left.0.0 (s, name) (λ e. other (ap (λ (p : Place). p.0) e))) (cases_lt s n)
          ]));
    }
      where
        elsewhere : (ids : List ℕ) → AreIds ids → AreFirmJournals servers row name ids old.files → (image : Place → Option (List ℕ)) (s : ℕ) → s < servers → HasShard row s
            → LeftOf (mid.files (s, name)) (image (s, name)) → (s < n) ⊎ (n ≤ s) → HasOrGains ids id (unwrap_or (image (s, name)) [])
        elsewhere ids fit journals image s below has left (inl less) =
            let is = so_far.written s less has in
            gains_by ids id (mid.files (s, name)) (image (s, name)) (journal_bytes ids ++ pair_bytes id)
            (subst IsFirm (sym is) (refl, refl))
            (ap bytes_of is ∙ ap (λ (l : List ℕ). l ++ pair_bytes id) (journals s below has).bytes)
            left (has_half ids id (numbers.bytes_of 8 id) fit small (omega (arith, length-bytes_of 8 id)))
        elsewhere ids fit journals image s below has left (inr more) =
            let is = so_far.to_write s more in
            gains_by ids id (mid.files (s, name)) (image (s, name)) (journal_bytes ids)
            (subst IsFirm (sym is) (journals s below has).firm) (ap bytes_of is ∙ (journals s below has).bytes)
            left (subst (HasOrGains ids id) (append-nil (journal_bytes ids)) (has_behind ids id [] fit (omega arith)))

    -- or one that isn't
    pub at_effect : AppendsAt row n name id mid new → AppendsEverywhere servers row name id old new
    at_effect did = elim (cases_lt 0 (count_on row n)) [
      | inl holds ↦ one_effect holds (did.holder holds)
      | inr none ↦ subst (λ (d : Disk). AppendsEverywhere servers row name id old d) (sym (did.other (λ holds. omega (arith, holds, none)))) so_far.effect
    ]

    pub at_deleted : AppendsAt row n name id mid new → (HasShard row n → new.files (n, name) ≡ Some (firm_file (bytes_of (mid.files (n, name)) ++ pair_bytes id))) → HasAppendedBelow (n + 1) old new
    at_deleted did done = record {
      effect = at_effect did;
      written = λ s less has. elim (cases_eq s n) [
        | inl same ↦ subst (λ t. new.files (t, name) ≡ Some (firm_file (bytes_of (old.files (t, name)) ++ pair_bytes id))) (sym same)
            (done (subst (HasShard row) same has) ∙ ap (λ (f : Option File). Some (firm_file (bytes_of f ++ pair_bytes id))) (so_far.to_write n (omega arith)))
        | inr other ↦ kept s other ∙ so_far.written s (omega arith) has
      ];
      to_write = λ s more. kept s (λ e. omega (arith, e)) ∙ so_far.to_write s (omega arith);
    }
      where
        kept : (s : ℕ) → s ≢ n → new.files (s, name) ≡ mid.files (s, name)
        kept s other = elim (cases_lt 0 (count_on row n)) [
          | inl holds ↦ (did.holder holds).touches.others (s, name) (λ e. other (ap (λ (p : Place). p.0) e))
          | inr none ↦ ap (λ (d : Disk). d.files (s, name)) (did.other (λ holds. omega (arith, holds, none)))
        ]
