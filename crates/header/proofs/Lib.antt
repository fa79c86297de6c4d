-- Laws of this crate's definitions, and its theorems.
pub mod EntriesBack
pub mod EntryLaws
pub mod Numbered
pub mod Placed
pub mod ReadLaws
pub mod RoundTrip
pub mod SaidLaws
pub mod WriteLaws
pub mod WrittenLaws
