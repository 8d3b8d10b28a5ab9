-- What a site without files means, and what three lines make of it.
use Rattle.std.proofs.Common.{◌≡◌, ◌⊎◌, inl, inr, ⊎_elim, ℕ, zero, suc, ◌+◌, ◌<◌, Bool, true, false, cond, List, [], ◌∷◌, ◌++◌, length, take, drop, Option, Some, None, refl, sym, ◌∙◌, ap, subst, arith}
use Rattle.std.specs.Prelude.{◌==◌, if◌then◌else◌, flat_map, nat_eq, nat_lt, option_and_then, slice_get, count_by, IfSome, MatchBool, MatchOption}
use Rattle.std.specs.List.{starts_with}
use Rattle.std.specs.Option.{option_map_or}
use Rattle.std.proofs.lemmas.Bool.{eq-eqb}
use Rattle.std.specs.FinMap.{get, empty, get-insert}
use Rattle.std.specs.Cmp.{nat_cmp_total}
use Rattle.std.specs.Ordering.{nat_cmp}
use Rattle.std.proofs.lemmas.List.{take-append-drop}
use Rattle.std.proofs.lemmas.List.Sums.{sum_by-append, sum_by-cons}
use Rattle.site_model.specs.Disk.{Image, IsSettled}
use Rattle.site_model.specs.Counts.{Rose}
use Rattle.site_model.specs.Standing.{lose}
use Rattle.world_model.specs.declared.types.Content.{Content}
use Rattle.world_model.specs.declared.types.Line.TheVariants as line
use Rattle.world_model.specs.declared.types.Refusal.{Refusal}
use Rattle.world_model.specs.declared.types.Refusal.TheVariants as refusal
use Rattle.world_model.specs.declared.types.Reply.{Reply}
use Rattle.world_model.specs.declared.types.Reply.TheVariants as reply
use Rattle.world_model.specs.World.{Needle, Volume, World, empty_volume}
use Rattle.world_model.specs.Moves.{Reading, grammatical, is_accepted, is_lost, when, first, refusal_of, Allowed, next_world}
use Rattle.world_model.specs.Runs.{IsRun, world_after}
use Rattle.hex.specs.Hex.{decode_pairs}
use Rattle.wire_num.specs.Numbers.{number_of, bytes_of}
use Rattle.script_text.specs.Grammar.{line_of}
use Rattle.script_text.specs.Texts.{text_of}
use Rattle.script_text.specs.Laws.Text.{line_feeds}
use Rattle.image_meaning.specs.Files.{contents, files_of}
use Rattle.image_meaning.specs.Meaning.{volume_of, volume_in, meaning, max_volumes}
use Rattle.image_meaning.specs.Sound.{IsSound}
use Rattle.image_meaning.specs.Ends.{IsNear, NearVolume}
use Rattle.image_meaning.specs.Laws.Plain.{IsAbsent, no_files_absent, absent_sound, absent_means}
use Rattle.image_meaning.specs.Laws.Losses.{losses_keep_soundness}
use Rattle.site_recovery.specs.Recovering.{HasNoCoded}
use Rattle.store_core.specs.Lines.{IsNearOrNext}
use Rattle.weed_shell.specs.Observed.{Start, Run, opening_image, first_world, lines_of, world_at, ready_text, text_with, is_fault_of}
use Rattle.weed_shell.specs.Answers.{AreCounted, is_fault_status}
use Rattle.weed_shell.specs.Headline.{IsAnswered}
use Rattle.weed_shell.specs.Stops.{said_since, was_ready, AfterReady, BeforeReady, LeftByStop}
use Rattle.weed_shell.specs.Stops as stops
use Rattle.promise_uses.specs.Starts.{ScriptIsRead, no_files, get_line, three_lines, two_answers, with_one, MeansOne, NeedleStays, IsFoundIn, NextRunFinds}

-- ---- the lines

pub script_is_read : ScriptIsRead
unfolding number_of bytes_of line_of decode_pairs
script_is_read = refl

-- ---- a site without files

none_there : (v : ℕ) → IsAbsent (files_of (contents no_files) v)
none_there v = no_files_absent (files_of (contents no_files) v) (λ server kind h k. refl)

pub empty_sound : IsSound (contents no_files)
empty_sound v below = absent_sound (files_of (contents no_files) v) (none_there v)

pub empty_settled : IsSettled no_files
empty_settled k = tt

pub empty_means : (v : ℕ) → volume_in (contents no_files) v ≡ None
empty_means v = by_test (nat_lt v max_volumes)
  where
    by_test : (b : Bool) → (if b then volume_of (files_of (contents no_files) v) else None) ≡ None
    by_test true = absent_means (files_of (contents no_files) v) (none_there v)
    by_test false = refl

pub empty_uncoded : HasNoCoded no_files
empty_uncoded v below has = absurd (cc has.4)

-- what is told of the settings of all words that are served
pub on_some : {A : Type 0} {P Q : A → Type 0} (o : Option A) → ((x : A) → P x → Q x) → IfSome o P → IfSome o Q
on_some None f is = is
on_some (Some x) f is = f x is

-- ---- what was said tells the replies

-- the text of all replies begins with these bytes and goes on
begins : (start : Start) (replies : List Reply) (said more : List ℕ) → (n : ℕ) × (said ≡ start.disk.said ++ take n (text_with replies)) → said_since start said ≡ two_answers ++ more
    → (rest : List ℕ) × (text_with replies ≡ two_answers ++ rest)
begins start replies said more front is =
    let n = front.0 in
    let since : said_since start said ≡ take n (text_with replies) = ap (λ (l : List ℕ). drop (length start.disk.said) l) front.1 ∙ drop_front start.disk.said (take n (text_with replies)) in
    (more ++ drop n (text_with replies), sym (take-append-drop n (text_with replies)) ∙ ap (λ (l : List ℕ). l ++ drop n (text_with replies)) (sym since ∙ is))
  where
    drop_front : (a b : List ℕ) → drop (length a) (a ++ b) ≡ b
    drop_front [] b = refl
    drop_front (x ∷ a) b = drop_front a b

-- a line that is answered `OK` alone or refused
abbrev IsDoneOrRefused : Reply → Type 0
IsDoneOrRefused r = (r ≡ reply.Done) ⊎ ((why : Refusal) × (r ≡ reply.Refused why))

done_or_refused : (o : Option Refusal) (r : Reply) → MatchOption o (r ≡ reply.Done) (λ why. r ≡ reply.Refused why) → IsDoneOrRefused r
done_or_refused None r is = inl is
done_or_refused (Some why) r is = inr (why, is)

-- so that its text tells which
is_done : (r : Reply) (texts rest : List ℕ) → IsDoneOrRefused r → text_of r ++ texts ≡ 79 ∷ 75 ∷ 10 ∷ rest → (r ≡ reply.Done) × (texts ≡ rest)
unfolding text_of
is_done r texts rest (inl e) is = (e, done_rest (ap (λ (x : Reply). text_of x ++ texts) (sym e) ∙ is))
  where
    done_rest : text_of reply.Done ++ texts ≡ 79 ∷ 75 ∷ 10 ∷ rest → texts ≡ rest
    done_rest same = cc
is_done r texts rest (inr (why, e)) is = absurd (refused_other (ap (λ (x : Reply). text_of x ++ texts) (sym e) ∙ is))
  where
    refused_other : text_of (reply.Refused why) ++ texts ≡ 79 ∷ 75 ∷ 10 ∷ rest → ⊥
    refused_other same = cc

-- both of the first two are `OK`
pub record AreDone (replies : List Reply) : Type 0 where
  pub others : List Reply
  pub are : replies ≡ reply.Done ∷ reply.Done ∷ others

are_done : (w : World) (c : Content) (replies : List Reply) (rest : List ℕ) → IsRun w (three_lines c) replies → flat_map text_of replies ≡ 79 ∷ 75 ∷ 10 ∷ 79 ∷ 75 ∷ 10 ∷ rest → AreDone replies
are_done w c [] rest run is = absurd (cc is)
are_done w c (r ∷ []) rest run is = absurd (none_some 79 (75 ∷ 10 ∷ rest) (is_done r [] (79 ∷ 75 ∷ 10 ∷ rest) (done_or_refused (refusal_of w (line.Create 7 0)) r run.0) is).1)
  where
    none_some : (b : ℕ) (bytes : List ℕ) → [] ≡ b ∷ bytes → ⊥
    none_some b bytes e = cc
are_done w c (r ∷ s ∷ others) rest run is =
    let one = is_done r (text_of s ++ flat_map text_of others) (79 ∷ 75 ∷ 10 ∷ rest) (done_or_refused (refusal_of w (line.Create 7 0)) r run.0) is in
    let two = is_done s (flat_map text_of others) rest (done_or_refused (refusal_of (next_world w (grammatical (line.Create 7 0)) r) (line.Put 7 1 42 c)) s run.1.0) one.1 in
    record { others = others; are = λ i. one.0 i ∷ two.0 i ∷ others }

-- ---- the world after two answers

-- the worlds after the lines, from one without volumes
abbrev after_two : World → Content → World
after_two w c = world_after w (three_lines c) (reply.Done ∷ reply.Done ∷ [])

get_changes_nothing : (w : World) (r : Reply) → next_world w get_line r ≡ w
get_changes_nothing w r = by_accepted (is_accepted r)
  where
    by_accepted : (b : Bool) → (if b then w else w) ≡ w
    by_accepted true = refl
    by_accepted false = refl

-- and the get changes nothing
later_worlds : (w : World) (c : Content) (others : List Reply) (n : ℕ) → world_after w (three_lines c) (take (suc (suc n)) (reply.Done ∷ reply.Done ∷ others)) ≡ after_two w c
later_worlds w c others zero = refl
later_worlds w c [] (suc n) = refl
later_worlds w c (r ∷ others) (suc n) = no_lines (next_world (after_two w c) get_line r) (take n others) ∙ get_changes_nothing (after_two w c) r
  where
    no_lines : (x : World) (rs : List Reply) → world_after x [] rs ≡ x
    no_lines x [] = refl
    no_lines x (s ∷ rs) = refl

pub next_is_get : (c : Content) (n : ℕ) (l : Reading) → slice_get (three_lines c) (suc (suc n)) ≡ Some l → l ≡ get_line
next_is_get c zero l is = cc
next_is_get c (suc n) l is = absurd (cc is)

-- what it has at each volume
one_volume : (w : World) (c : Content) → ((v : ℕ) → w.volumes v ≡ None) → (v : ℕ) → (after_two w c).volumes v ≡ (if v == 7 then Some (with_one c) else None)
one_volume w c none v = by_test (v == 7)
  where
    by_test : (b : Bool) → (if b then Some (with_one c) else if b then Some empty_volume else w.volumes v) ≡ (if b then Some (with_one c) else None)
    by_test true = refl
    by_test false = none v

near_same : (c : Content) (b : Bool) (x y : Option Volume) → x ≡ (if b then Some (with_one c) else None) → NearVolume false x y → y ≡ (if b then Some (with_one c) else None)
near_same c true x y is near = some y (subst (λ (o : Option Volume). NearVolume false o y) is near)
  where
    some : (o : Option Volume) → NearVolume false (Some (with_one c)) o → o ≡ Some (with_one c)
    some None near = absurd (cc near)
    some (Some vol) near = λ i. Some (record { mode = near.2 i; used = near.0 i; needles = near.1 i })
near_same c false x y is near = none y (subst (λ (o : Option Volume). NearVolume false o y) is near)
  where
    none : (o : Option Volume) → NearVolume false None o → o ≡ None
    none None near = refl
    none (Some vol) near = absurd near

-- ---- every stop behind two answers

module _ (start : Start) (c : Content) (lines : lines_of start ≡ three_lines c) (none : (v : ℕ) → (first_world start).volumes v ≡ None) where
  means_one : (replies : List Reply) (image : Image) (n : ℕ) → AreDone replies → AfterReady start replies image (suc (suc n)) → MeansOne c image
  means_one replies image n done after = record { sound = after.sound; worlds = λ u may. by_world u (after.worlds u may) }
    where
      world : world_at start (take (suc (suc n)) replies) ≡ after_two (first_world start) c
      world = (λ i. world_after (first_world start) (lines i) (take (suc (suc n)) (done.are i))) ∙ later_worlds (first_world start) c done.others n

      near_one : (u : World) → IsNear (after_two (first_world start) c) u → (v : ℕ) → u.volumes v ≡ (if v == 7 then Some (with_one c) else None)
      near_one u near v = near_same c (v == 7) ((after_two (first_world start) c).volumes v) (u.volumes v) (one_volume (first_world start) c none v) (near v)

      by_world : (u : World) → IsNearOrNext (world_at start (take (suc (suc n)) replies)) (slice_get (lines_of start) (suc (suc n))) u → (v : ℕ) → u.volumes v ≡ (if v == 7 then Some (with_one c) else None)
      by_world u (inl near) = near_one u (subst (λ (w : World). IsNear w u) world near)
      by_world u (inr (l, is, x, outcome, near)) =
          let get : l ≡ get_line = next_is_get c n l (ap (λ (ls : List Reading). slice_get ls (suc (suc n))) (sym lines) ∙ is) in
          let same : x ≡ after_two (first_world start) c =
          outcome.2 ∙ ap (λ (y : Reading). next_world (world_at start (take (suc (suc n)) replies)) y outcome.0) get
          ∙ get_changes_nothing (world_at start (take (suc (suc n)) replies)) outcome.0 ∙ world in
          near_one u (subst (λ (w : World). IsNear w u) same near)

feeds_two : (more : List ℕ) → (n : ℕ) × (line_feeds (79 ∷ 75 ∷ 10 ∷ 79 ∷ 75 ∷ 10 ∷ more) ≡ suc (suc n))
feeds_two more =
    let parts : line_feeds (79 ∷ 75 ∷ 10 ∷ 79 ∷ 75 ∷ 10 ∷ more) ≡ 2 + line_feeds more = sum_by-append (λ b. cond (b == 10) 1 0) (79 ∷ 75 ∷ 10 ∷ 79 ∷ 75 ∷ 10 ∷ []) more in
    (line_feeds more, omega (arith, parts))

-- the run was ready, two lines were answered or more, and the first two of their replies are `OK`
module _ (start : Start) (said more : List ℕ) (saw : said_since start said ≡ two_answers ++ more) where
  pub two_ready : was_ready start said ≡ true
  two_ready = ap ready_in saw
    where
      ready_in : List ℕ → Bool
      ready_in bytes = starts_with nat_eq bytes ready_text

  pub two_answered : (n : ℕ) × (stops.answered start said ≡ suc (suc n))
  two_answered = let feeds = feeds_two more in (feeds.0, ap feeds_in saw ∙ feeds.1)
    where
      feeds_in : List ℕ → ℕ
      feeds_in bytes = line_feeds (drop (length ready_text) bytes)

  pub two_done : (c : Content) (replies : List Reply) → lines_of start ≡ three_lines c → IsRun (first_world start) (lines_of start) replies → (n : ℕ) × (said ≡ start.disk.said ++ take n (text_with replies))
      → AreDone replies
  two_done c replies lines run front =
      let text = begins start replies said more front saw in
      are_done (first_world start) c replies text.0 (subst (λ (ls : List Reading). IsRun (first_world start) ls replies) lines run) (all_texts text.1)
    where
      all_texts : {rest : List ℕ} → text_with replies ≡ two_answers ++ rest → flat_map text_of replies ≡ 79 ∷ 75 ∷ 10 ∷ 79 ∷ 75 ∷ 10 ∷ rest
      all_texts same = ap (λ (l : List ℕ). drop 6 l) same

pub needle_stays : (run : Run) → IsAnswered run → IsSettled run.start.disk.files → ((v : ℕ) → (first_world run.start).volumes v ≡ None) → NeedleStays run
needle_stays run is settled none c lines image said more left saw =
    let stop : LeftByStop run.start is.replies image said = (is.every_stop settled).each image said left in
    let count = two_answered run.start said more saw in
    means_one run.start c lines none is.replies image count.0
    (two_done run.start said more saw c is.replies lines is.the_replies.is_run stop.said_by_then.front)
    (subst (λ (k : ℕ). AfterReady run.start is.replies image k) count.1
    (subst (λ (b : Bool). MatchBool b (AfterReady run.start is.replies image (stops.answered run.start said)) (BeforeReady run.start image)) (two_ready run.start said more saw) stop.means))

-- ---- the next run

abbrev IsGot : ℕ → Reply → Option Volume → Type 0
IsGot servers r o = MatchOption (option_map_or (λ vol. first (when (is_lost vol.mode) refusal.Lost ∷ [])) o (Some refusal.NoVolume))
    ((r ≡ option_map_or (λ n. if n.cookie == 42 then reply.Found n.content else reply.Refused refusal.NotFound) (option_and_then (λ vol. get vol.needles 1) o) (reply.Refused refusal.NotFound)) ⊎ ((server : ℕ) × (server < servers) × (r ≡ reply.Refused (refusal.Fault server))))
    (λ why. r ≡ reply.Refused why)

abbrev found_by : Option Needle → Reply
found_by o = option_map_or (λ n. if n.cookie == 42 then reply.Found n.content else reply.Refused refusal.NotFound) o (reply.Refused refusal.NotFound)

has_it : (c : Content) → get (with_one c).needles 1 ≡ Some (record { cookie = 42; content = c })
has_it c = get-insert nat_cmp_total (empty {K = ℕ} {X = Needle} {R = nat_cmp}) 1 (record { cookie = 42; content = c }) 1

first_get : (c : Content) (w : World) (r : Reply) → w.volumes 7 ≡ Some (with_one c) → Allowed w get_line r → (r ≡ reply.Found c) ⊎ ((server : ℕ) × (server < w.servers) × (r ≡ reply.Refused (refusal.Fault server)))
first_get c w r e allowed = ⊎_elim (λ found. inl (found ∙ ap found_by (has_it c))) (λ fault. inr fault) (subst (λ (o : Option Volume). IsGot w.servers r o) e allowed)

-- a fault that was told first was counted
counted_first : (server before after more : ℕ) (others : List Reply) → AreCounted (count_by (is_fault_of server) (reply.Refused (refusal.Fault server) ∷ others) + more) before after → Rose before after
counted_first server before after more others counted =
    let one : count_by (is_fault_of server) (reply.Refused (refusal.Fault server) ∷ others) ≡ 1 + count_by (is_fault_of server) others =
    sum_by-cons (λ r. if is_fault_of server r then 1 else 0) (reply.Refused (refusal.Fault server)) others
    ∙ ap (λ (b : Bool). (if b then 1 else 0) + count_by (is_fault_of server) others) (eq-eqb server server refl) in
    by_case one counted
  where
    by_case : count_by (is_fault_of server) (reply.Refused (refusal.Fault server) ∷ others) ≡ 1 + count_by (is_fault_of server) others
        → AreCounted (count_by (is_fault_of server) (reply.Refused (refusal.Fault server) ∷ others) + more) before after → Rose before after
    by_case one (inl rose) = omega (arith, one, rose)
    by_case one (inr last) = omega (arith, last)

pub next_run_finds : NextRunFinds
next_run_finds c image lost next more means survivable over promise lines =
    let sound : IsSound (opening_image next.start) = subst IsSound (sym over) (losses_keep_soundness image lost means.sound survivable) in
    let is : IsAnswered next = promise sound in
    let seven : (first_world next.start).volumes 7 ≡ Some (with_one c) =
    ap (λ (i : Image). volume_in i 7) over ∙ means.worlds (meaning 0 0 (lose lost image)) (record { lost = lost; survivable = survivable; means = refl }) 7 in
    record {
      replies = is.replies;
      ready = is.ready;
      the_replies = is.the_replies;
      found = λ r others e. by_reply is r others e (first_get c (first_world next.start) r seven (the_first is r others e));
    }
  where
    the_first : (is : IsAnswered next) (r : Reply) (others : List Reply) → is.replies ≡ r ∷ others → Allowed (first_world next.start) get_line r
    the_first is r others e =
        (subst (λ (ls : List Reading). IsRun (first_world next.start) ls (r ∷ others)) lines (subst (λ (rs : List Reply). IsRun (first_world next.start) (lines_of next.start) rs) e is.the_replies.is_run)).0

    by_reply : (is : IsAnswered next) (r : Reply) (others : List Reply) → is.replies ≡ r ∷ others
        → (r ≡ reply.Found c) ⊎ ((server : ℕ) × (server < next.start.servers) × (r ≡ reply.Refused (refusal.Fault server))) → IsFoundIn next c r
    by_reply is r others e (inl found) = inl found
    by_reply is r others e (inr (server, below, fault)) = inr (
      server,
      below,
      fault,
      counted_first server (next.start.counts.faults server) (next.counts.faults server) (is_fault_status server next.status) others
          (subst (λ (rs : List Reply). AreCounted (count_by (is_fault_of server) rs + is_fault_status server next.status) (next.start.counts.faults server) (next.counts.faults server))
          (e ∙ ap (λ (x : Reply). x ∷ others) fault) (is.the_replies.fault_counts server below)),
    )
