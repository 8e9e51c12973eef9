-- Bases over bases: the plans of a base that meet a group.
pub mod Meeting
pub mod Meetings
