use Rattle.std.proofs.Common.{◌≡◌, ◌∙◌, ap, sym, map, take, ◌↔◌}
use Rattle.std.specs.Prelude.{IsTrue}
use Rattle.std.proofs.lemmas.Bool.{false≢true}
use Rattle.std.specs.Cmp.{unsigned_Decides}
use Rattle.lt_core.specs.Beginnings.{AllStand, first_entries, first_places}
use Rattle.lt_core.specs.Marks.{entry_of, marks_of}
use Rattle.lt_core.specs.Meaning.{value_of}
use Rattle.lt_core.proofs.BeginsWith.{is_beginning, log_empty, empty_log, entries_counted, entries_read, places_counted, places_read, queue_read, facets_fit}
use Rattle.lt_core.proofs.atlas.Atlas.begins_with.Goals as goal

pub returns-then-self-start : goal.returns-then-self-start
returns-then-self-start c = (
  λ t. absurd (false≢true t),
  λ h. absurd (c.if-self-start.true ((is_beginning c.self.inside c.start.inside c.self.invariant.sound c.start.invariant.sound c.args.self.now c.args.start.now c.self.view_is c.start.view_is).1 h).dimension),
)

pub returns-then-not-is_empty : goal.returns-then-not-is_empty
returns-then-not-is_empty c = (
  λ t. absurd (false≢true t),
  λ h.
      let p = (is_beginning c.self.inside c.start.inside c.self.invariant.sound c.start.invariant.sound c.args.self.now c.args.start.now c.self.view_is c.start.view_is).1 h in
      sym c.if-not-is_empty.true ∙ c.is_empty.ensures ∙ (unsigned_Decides _ 0).1 (empty_log c.self.inside c.start.inside c.self.invariant.sound c.start.invariant.sound p.log),
)

pub returns-then-not-same_entries : goal.returns-then-not-same_entries
returns-then-not-same_entries c = (
  λ t. absurd (false≢true t),
  λ h.
      let i = c.self.inside in
      let j = c.start.inside in
      let p = (is_beginning i j c.self.invariant.sound c.start.invariant.sound c.args.self.now c.args.start.now c.self.view_is c.start.view_is).1 h in
      let n = c.saturating_sub-entries.result in
      let hn : n ≡ first_entries (value_of i) = entries_counted i j c.self.invariant.sound c.start.invariant.sound n c.len.result c.fresh_count.result c.deref.result.now c.deref.ensures.value c.fresh_count.ensures c.len.ensures c.saturating_sub-entries.ensures in
      let e : map entry_of (take n c.deref-2.result.now) ≡ map entry_of c.deref-3.result.now =
      entries_read i j c.self.invariant.sound c.start.invariant.sound n hn c.deref-2.result.now c.deref-2.ensures.value ∙ p.entries ∙ ap (map entry_of) (sym c.deref-3.ensures.value) in
      sym c.if-not-same_entries.true ∙ c.same_entries.ensures.1 e,
)

pub returns-then-not-same_places : goal.returns-then-not-same_places
returns-then-not-same_places c = (
  λ t. absurd (false≢true t),
  λ h.
      let i = c.self.inside in
      let j = c.start.inside in
      let p = (is_beginning i j c.self.invariant.sound c.start.invariant.sound c.args.self.now c.args.start.now c.self.view_is c.start.view_is).1 h in
      let n = c.saturating_sub-entries.result in
      let hn : n ≡ first_entries (value_of i) = entries_counted i j c.self.invariant.sound c.start.invariant.sound n c.len.result c.fresh_count.result c.deref.result.now c.deref.ensures.value c.fresh_count.ensures c.len.ensures c.saturating_sub-entries.ensures in
      let m = c.places_before-places.result in
      let hm : m ≡ first_places (value_of i) = places_counted i j c.self.invariant.sound c.start.invariant.sound n hn m c.len-2.result c.deref-4.result.now c.deref-4.ensures.value c.len-2.ensures c.places_before-places.ensures in
      let e : take m c.deref-5.result.now ≡ c.deref-6.result.now =
      places_read i j c.self.invariant.sound c.start.invariant.sound m hm c.deref-5.result.now c.deref-5.ensures.value ∙ p.queue ∙ queue_read i j c.self.invariant.sound c.start.invariant.sound j ∙ sym c.deref-6.ensures.value in
      sym c.if-not-same_places.true ∙ c.same_places.ensures.1 e,
)

pub all_stand-requires-clause-facets : goal.all_stand-requires-clause-facets
all_stand-requires-clause-facets c =
    let i = c.self.inside in
    let j = c.start.inside in
    let n = c.saturating_sub-entries.result in
    let hn : n ≡ first_entries (value_of i) = entries_counted i j c.self.invariant.sound c.start.invariant.sound n c.len.result c.fresh_count.result c.deref.result.now c.deref.ensures.value c.fresh_count.ensures c.len.ensures c.saturating_sub-entries.ensures in
    let e : map entry_of (take n c.deref-2.result.now) ≡ map entry_of c.deref-3.result.now = c.same_entries.ensures.0 c.if-not-same_entries.false in
    let f = facets_fit i j c.self.invariant.sound c.start.invariant.sound (sym (entries_read i j c.self.invariant.sound c.start.invariant.sound n hn c.deref-2.result.now c.deref-2.ensures.value) ∙ e ∙ ap (map entry_of) c.deref-3.ensures.value) in
    rw (c.deref-7.ensures.value, c.deref-8.ensures.value) f

pub returns : goal.returns
returns c =
    let i = c.self.inside in
    let j = c.start.inside in
    let p = is_beginning i j c.self.invariant.sound c.start.invariant.sound c.args.self.now c.args.start.now c.self.view_is c.start.view_is in
    let n = c.saturating_sub-entries.result in
    let hn : n ≡ first_entries (value_of i) = entries_counted i j c.self.invariant.sound c.start.invariant.sound n c.len.result c.fresh_count.result c.deref.result.now c.deref.ensures.value c.fresh_count.ensures c.len.ensures c.saturating_sub-entries.ensures in
    let m = c.places_before-places.result in
    let hm : m ≡ first_places (value_of i) = places_counted i j c.self.invariant.sound c.start.invariant.sound n hn m c.len-2.result c.deref-4.result.now c.deref-4.ensures.value c.len-2.ensures c.places_before-places.ensures in
    let e : map entry_of (take n c.deref-2.result.now) ≡ map entry_of c.deref-3.result.now = c.same_entries.ensures.0 c.if-not-same_entries.false in
    let q : take m c.deref-5.result.now ≡ c.deref-6.result.now = c.same_places.ensures.0 c.if-not-same_places.false in
    let marks : IsTrue c.all_stand.result ↔ AllStand (marks_of j.marks.items) (marks_of i.marks.items) = rw (c.deref-7.ensures.value, c.deref-8.ensures.value) at c.all_stand.ensures in (
      λ t. p.0 (record {
        dimension = c.if-self-start.false;
        log = log_empty i j c.self.invariant.sound c.start.invariant.sound ((unsigned_Decides _ 0).0 (sym c.is_empty.ensures ∙ c.if-not-is_empty.false));
        entries = sym (entries_read i j c.self.invariant.sound c.start.invariant.sound n hn c.deref-2.result.now c.deref-2.ensures.value) ∙ e ∙ ap (map entry_of) c.deref-3.ensures.value;
        queue = sym (places_read i j c.self.invariant.sound c.start.invariant.sound m hm c.deref-5.result.now c.deref-5.ensures.value) ∙ q ∙ c.deref-6.ensures.value ∙ sym (queue_read i j c.self.invariant.sound c.start.invariant.sound j);
        marks = marks.0 t;
      }),
      λ h. marks.1 (p.1 h).marks,
    )
