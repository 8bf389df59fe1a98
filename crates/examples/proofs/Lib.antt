mod ChangeLemmas
mod CidrLemmas
mod ExtentLemmas
mod InterruptLemmas
mod MemoryLemmas
mod RingLemmas
mod WindowLemmas
mod WordLemmas
