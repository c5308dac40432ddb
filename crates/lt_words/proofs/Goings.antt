-- Where one word more leads behind `run`, and which words lead nowhere.
use Rattle.std.proofs.Common.{◌≡◌, ℕ, Bool, true, false, List, ◌∷◌, ◌↔◌, Option, Some, None, refl, sym, ap, ◌∙◌, subst}
use Rattle.std.specs.Fmt.{decimal}
use Rattle.lt_words.specs.declared.words.Command.{Command}
use Rattle.lt_words.specs.declared.words.Command.TheVariants.{Run, Drill}
use Rattle.lt_words.specs.declared.options.Setting.{Setting}
use Rattle.lt_words.specs.declared.options.Part.{Part}
use Rattle.lt_words.specs.declared.options.Part.TheVariants.{Dimension, Resume, Ending, Named, Joined}
use Rattle.lt_words.specs.declared.options.Options.{Options}
use Rattle.lt_words.specs.Grammar.{IsInSetting, Item, dimension, setting, resuming, ending, AreSpellings}
use Rattle.lt_words.specs.Parts.{part_word, IsPart}
use Rattle.lt_words.specs.Rests.{named, Allows, IsInLimit, LeavesSteps, Complete, IsRestBy, GoesTo, StopsAt, TakesNumber}
use Rattle.lt_words.proofs.Spellings.{Leads, Follows, same_number, behind, in_front, no_part}
use Rattle.lt_words.proofs.Steps.{takes_dimension, one_dimension_alone, takes_resuming, one_resuming_alone, takes_ending, nothing_else, one_number_alone, number_in_limit, dimension_leaves_steps}

-- ---- where no number is due

-- a part that is an item
module _ (o : Options) (p : Part) (i : Item) (none : o.due ≡ None) (is_part : IsPart p) (item : (items : List Item) (ws : List (List ℕ)) → Follows p items ws ↔ Leads i items ws) where
  goes_item : (next : Options) → next.due ≡ None → ((c : Command) (items : List Item) → Complete o c (i ∷ items) ↔ Complete next c items) → GoesTo o (part_word p) next
  goes_item next none_next step c ws = (
    λ r. let (items, m, f) = subst (λ u. IsRestBy u o c (part_word p ∷ ws)) none r in
        let (more, e, s) = (item items ws).0 (behind p items ws is_part m) in
        subst (λ u. IsRestBy u next c ws) (sym none_next) (more, s, (step c more).0 (subst (Complete o c) e f)),
    λ r. let (more, s, f) = subst (λ u. IsRestBy u next c ws) none_next r in
        subst (λ u. IsRestBy u o c (part_word p ∷ ws)) (sym none) (i ∷ more, in_front p (i ∷ more) ws is_part ((item (i ∷ more) ws).1 (more, refl, s)), (step c more).1 f),
  )

  stops_item : ((c : Command) (items : List Item) → Complete o c (i ∷ items) → ⊥) → StopsAt o (part_word p)
  stops_item never c ws r =
      let (items, m, f) = subst (λ u. IsRestBy u o c (part_word p ∷ ws)) none r in
      let (more, e, s) = (item items ws).0 (behind p items ws is_part m) in
      never c more (subst (Complete o c) e f)

itself : (p : Part) (items : List Item) (ws : List (List ℕ)) → Follows p items ws ↔ Follows p items ws
itself p items ws = (λ f. f, λ f. f)

pub goes_dimension : (o : Options) (p : Part) (d : ℕ) → p ≡ Dimension d → o.due ≡ None → IsPart p → Allows o p → GoesTo o (part_word p) (record o { d = Some d })
goes_dimension o p d is none r a =
    subst (λ q. GoesTo o (part_word q) (record o { d = Some d })) (sym is)
    (goes_item o (Dimension d) (dimension d) none (subst IsPart is r) (itself (Dimension d)) (record o { d = Some d }) none (takes_dimension o d (subst (Allows o) is a).0))

pub goes_resume : (o : Options) (p : Part) → p ≡ Resume → o.due ≡ None → Allows o p → GoesTo o (part_word p) (record o { resume = true })
goes_resume o p is none a =
    let allowed = subst (Allows o) is a in
    subst (λ q. GoesTo o (part_word q) (record o { resume = true })) (sym is)
    (goes_item o Resume resuming none tt (itself Resume) (record o { resume = true }) none (takes_resuming o allowed.1 allowed.0))

pub goes_ending : (o : Options) (p : Part) → p ≡ Ending → o.due ≡ None → Allows o p → GoesTo o (part_word p) (record o { ended = true })
goes_ending o p is none a =
    subst (λ q. GoesTo o (part_word q) (record o { ended = true })) (sym is)
    (goes_item o Ending ending none tt (itself Ending) (record o { ended = true }) none (takes_ending o (subst (Allows o) is a)))

pub goes_joined : (o next : Options) (p : Part) (s : Setting) (n : ℕ) → p ≡ Joined s n → o.due ≡ None → IsPart p → next.due ≡ None → TakesNumber o s n next → GoesTo o (part_word p) next
goes_joined o next p s n is none r none_next takes =
    subst (λ q. GoesTo o (part_word q) next) (sym is) (goes_item o (Joined s n) (setting s n) none (subst IsPart is r) (itself (Joined s n)) next none_next takes)

-- a setting whose number is due changes nothing else
same_complete : (o : Options) (s : Setting) (c : Command) (items : List Item) → Complete o c items ↔ Complete (record o { due = Some s }) c items
same_complete o s (Drill d seed l) items = (λ f. f, λ f. f)
same_complete o s (Run d w t r) items = (
  λ f. record { one_dimension = f.one_dimension; chosen_workers = f.chosen_workers; chosen_steps = f.chosen_steps; few = f.few; resumed = f.resumed; last = f.last },
  λ f. record { one_dimension = f.one_dimension; chosen_workers = f.chosen_workers; chosen_steps = f.chosen_steps; few = f.few; resumed = f.resumed; last = f.last },
)
same_complete o s _ items = (λ f. f, λ f. f)

pub goes_named : (o : Options) (p : Part) (s : Setting) → p ≡ Named s → o.due ≡ None → GoesTo o (part_word p) (record o { due = Some s })
goes_named o p s is none = subst (λ q. GoesTo o (part_word q) (record o { due = Some s })) (sym is)
    (λ c ws. (
      λ r. let (items, m, f) = subst (λ u. IsRestBy u o c (part_word (Named s) ∷ ws)) none r in
          let (n, rest, more, w, in_setting, e, t) = behind (Named s) items ws tt m in
          (n, rest, more, w, in_setting, t, (same_complete o s c (setting s n ∷ more)).0 (subst (Complete o c) e f)),
      λ r. let (n, rest, more, w, in_setting, t, f) = r in
          subst (λ u. IsRestBy u o c (part_word (Named s) ∷ ws)) (sym none)
          (setting s n ∷ more, in_front (Named s) (setting s n ∷ more) ws tt (n, rest, more, w, in_setting, refl, t), (same_complete o s c (setting s n ∷ more)).1 f),
    ))

-- ---- parts that may not come

is_some : (m : Option ℕ) → (m ≡ None → ⊥) → (n : ℕ) × (m ≡ Some n)
is_some None h = absurd (h refl)
is_some (Some n) h = (n, refl)

is_true : (b : Bool) → (b ≡ false → ⊥) → b ≡ true
is_true true h = refl
is_true false h = absurd (h refl)

-- of a setting that may not come
never_setting : (o : Options) (s : Setting) (n : ℕ) → ((o.ended ≡ false) × (named o s ≡ None) × IsInLimit o s n → ⊥) → (c : Command) (items : List Item) → Complete o c (setting s n ∷ items) → ⊥
never_setting o s n not c items f =
    let shut : o.ended ≡ false → ⊥ = λ on. let k = is_some (named o s) (λ none. not (on, none, number_in_limit o s n c items f)) in one_number_alone o s n k.0 k.1 c items f in
    nothing_else o (setting s n) (is_true o.ended shut) (λ d e. cc) c items f

-- and of a dimension
never_dimension : (o : Options) (d : ℕ) → ((o.d ≡ None) × LeavesSteps o d → ⊥) → (c : Command) (items : List Item) → Complete o c (dimension d ∷ items) → ⊥
never_dimension o d not c items f =
    let k = is_some o.d (λ none. not (none, dimension_leaves_steps o d none c items f)) in one_dimension_alone o d k.0 k.1 c items f

never_resuming : (o : Options) → ((o.ended ≡ false) × (o.resume ≡ false) → ⊥) → (c : Command) (items : List Item) → Complete o c (resuming ∷ items) → ⊥
never_resuming o not c items f =
    let shut : o.ended ≡ false → ⊥ = λ on. one_resuming_alone o (is_true o.resume (λ none. not (on, none))) c items f in
    nothing_else o resuming (is_true o.ended shut) (λ d e. cc) c items f

-- a part that may not come
pub stops_at_part : (o : Options) (p : Part) → o.due ≡ None → IsPart p → (Allows o p → ⊥) → StopsAt o (part_word p)
stops_at_part o (Dimension d) none r not = stops_item o (Dimension d) (dimension d) none r (itself (Dimension d)) (never_dimension o d not)
stops_at_part o Resume none r not = stops_item o Resume resuming none r (itself Resume) (never_resuming o not)
stops_at_part o Ending none r not = stops_item o Ending ending none r (itself Ending) (nothing_else o ending (is_true o.ended not) (λ d e. cc))
stops_at_part o (Joined s n) none r not = stops_item o (Joined s n) (setting s n) none r (itself (Joined s n)) (never_setting o s n not)
stops_at_part o (Named s) none r not = λ c ws rest.
    let (items, m, f) = subst (λ u. IsRestBy u o c (part_word (Named s) ∷ ws)) none rest in
    let (n, later, more, w, in_setting, e, t) = behind (Named s) items ws tt m in
    never_setting o s n (λ h. not (h.0, h.1)) c more (subst (Complete o c) e f)

-- a word that is no part
pub stops_at_none : (o : Options) (v : List ℕ) → o.due ≡ None → ((p : Part) → IsPart p → v ≡ part_word p → ⊥) → StopsAt o v
stops_at_none o v none other c ws rest = let (items, m, f) = subst (λ u. IsRestBy u o c (v ∷ ws)) none rest in no_part items v ws other m

-- ---- where a number is due

pub goes_number : (o next : Options) (s : Setting) (n : ℕ) (v : List ℕ) → o.due ≡ Some s → next.due ≡ None → IsInSetting s n → v ≡ decimal n → TakesNumber o s n next → GoesTo o v next
goes_number o next s n v due none r is takes c ws = (
  λ rest. let (m, later, items, w, in_setting, t, f) = subst (λ u. IsRestBy u o c (v ∷ ws)) due rest in
      let same : m ≡ n = same_number s m n in_setting r (let e : decimal m ≡ v = cc in e ∙ is) in
      let behind : later ≡ ws = cc in
      subst (λ u. IsRestBy u next c ws) (sym none) (items, subst (AreSpellings items) behind t, (takes c items).0 (subst (λ k. Complete o c (setting s k ∷ items)) same f)),
  λ rest. let (items, t, f) = subst (λ u. IsRestBy u next c ws) none rest in
      subst (λ u. IsRestBy u o c (v ∷ ws)) (sym due) (n, ws, items, ap (λ w. w ∷ ws) is, r, t, (takes c items).1 f),
)

pub stops_at_number : (o : Options) (s : Setting) (v : List ℕ) → o.due ≡ Some s → ((n : ℕ) → IsInSetting s n → IsInLimit o s n → v ≡ decimal n → ⊥) → StopsAt o v
stops_at_number o s v due other c ws rest =
    let (m, later, items, w, in_setting, t, f) = subst (λ u. IsRestBy u o c (v ∷ ws)) due rest in other m in_setting (number_in_limit o s m c items f) (cc)
