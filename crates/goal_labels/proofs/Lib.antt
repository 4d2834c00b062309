mod PlaceLemmas
mod EndsLemmas
mod EntryLemmas
mod HeldLemmas
mod OrderedLemmas
mod NumberLemmas
mod IndexLemmas
