mod SampleLemmas
mod ReadLemmas
